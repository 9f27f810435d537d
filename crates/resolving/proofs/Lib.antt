pub mod Expiry
pub mod ResultLaws
pub mod MadeLaws
pub mod KeptLaws
pub mod Same
