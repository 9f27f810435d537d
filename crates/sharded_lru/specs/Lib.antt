pub mod Lent
pub mod Admit
pub mod Placed
pub mod Laws
pub mod Keeps
