pub mod Calls
pub mod Demand1
pub mod Demand2
pub mod Join
pub mod Demand3
pub mod Lines
pub mod Promised
pub mod Tied
