pub mod Fresh
pub mod Raise
