pub mod IndexPlaces
