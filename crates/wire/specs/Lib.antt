pub mod Choice
pub mod Refusals
pub mod Outcomes
pub mod Below
pub mod Bytes
pub mod Buffers
