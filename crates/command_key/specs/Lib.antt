pub mod Key
pub mod Joined
pub mod Keys
pub mod Named
