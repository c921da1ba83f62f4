pub mod Listed
pub mod Tops
pub mod OwnPlaces
pub mod Picked
pub mod Viewed
pub mod Exchanged
