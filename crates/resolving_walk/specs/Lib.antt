pub mod Commands
pub mod Laws
pub mod Walk
pub mod Same
