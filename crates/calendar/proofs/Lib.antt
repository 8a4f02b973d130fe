pub mod DateLaws
pub mod Unique
