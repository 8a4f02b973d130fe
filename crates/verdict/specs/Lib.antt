pub mod Verdict
pub mod Settle
pub mod Way
