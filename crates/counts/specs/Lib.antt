pub mod Counting
pub mod Weigh
pub mod Cells
pub mod Way
