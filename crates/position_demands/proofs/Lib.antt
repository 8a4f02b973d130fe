pub mod OffenceLaws
pub mod Demand1
pub mod Demand2
pub mod JoinDays
pub mod JoinLogs
pub mod JoinRun
pub mod Demand3
pub mod Lines
