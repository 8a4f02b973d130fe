pub mod Entries
pub mod Accounts
pub mod ContractEntries
pub mod Way
pub mod Tables
