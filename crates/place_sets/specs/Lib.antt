-- The specs of sets of places.
pub mod Places
