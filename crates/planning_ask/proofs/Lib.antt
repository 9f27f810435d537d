pub mod SimplePlaces
pub mod LatePlaces
