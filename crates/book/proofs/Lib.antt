pub mod BookLaws
pub mod FitsLaws
pub mod AskLaws
pub mod Unique
