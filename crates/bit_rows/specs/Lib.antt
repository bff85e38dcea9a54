-- The specs of rows of 512 lanes.
pub mod Lanes
