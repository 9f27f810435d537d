pub mod Steps
pub mod Says
pub mod Arms
pub mod Laws
