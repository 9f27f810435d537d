pub mod Unseen
pub mod Does
pub mod Going
pub mod Prepares
