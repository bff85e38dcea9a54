-- The specs of the patterns of a block that a fault fits.
pub mod LaneNumbers
pub mod FitPlaces
