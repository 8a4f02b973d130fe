pub mod EntryLaws
pub mod Search
pub mod Unique
