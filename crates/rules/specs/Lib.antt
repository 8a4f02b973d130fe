pub mod Choices
pub mod Kinds
pub mod Codes
pub mod Measure
pub mod Limits
pub mod Ladders
