pub mod WriteLaws
pub mod FreshLaws
pub mod Unique
