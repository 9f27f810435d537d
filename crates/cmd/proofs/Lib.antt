pub mod BlobPlaces
