pub mod Line
pub mod Number
