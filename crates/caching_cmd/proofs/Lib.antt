pub mod Settle
pub mod Listed
