pub mod CellLaws
pub mod WeighLaws
pub mod Unique
