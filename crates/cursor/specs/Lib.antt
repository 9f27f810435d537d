pub mod At
pub mod Laws
pub mod Steps
pub mod Index
