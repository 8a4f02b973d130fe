pub mod Exemption
pub mod Sheet
