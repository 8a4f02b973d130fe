pub mod LadderLaws
pub mod Unique
