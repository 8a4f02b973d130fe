pub mod FoundLaws
pub mod RaiseLaws
pub mod SettleLaws
pub mod SameVerdict
pub mod BookKept
pub mod Unique
