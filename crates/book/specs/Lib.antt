pub mod Shape
pub mod Layout
pub mod Sound
pub mod Fits
pub mod Ask
