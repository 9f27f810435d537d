pub mod JoinedPlaces
