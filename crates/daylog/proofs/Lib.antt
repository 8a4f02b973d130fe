pub mod HeaderLaws
pub mod FaultLaws
pub mod RecordLaws
pub mod ChangedLaws
pub mod Unique
