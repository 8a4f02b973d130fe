pub mod ClauseLaws
pub mod SheetLaws
pub mod Unique
