pub mod HandedLaws
pub mod LowestLaws
pub mod VerdictLaws
pub mod EndLaws
pub mod Unique
