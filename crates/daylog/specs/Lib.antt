pub mod Brokers
pub mod Records
pub mod Header
pub mod GoodLog
pub mod Rows
pub mod Changed
