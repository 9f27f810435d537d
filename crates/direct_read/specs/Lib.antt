pub mod Server
pub mod Direct
pub mod Get
pub mod Alike
