pub mod Days
pub mod Written
pub mod Restrictions
pub mod Listed
pub mod Joined
pub mod Laws
