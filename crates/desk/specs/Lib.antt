pub mod Books
pub mod Open
pub mod Take
pub mod Abandon
pub mod Offences
pub mod End
pub mod Way
