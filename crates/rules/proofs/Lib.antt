pub mod FamilyLaws
pub mod KindLaws
pub mod Unique
