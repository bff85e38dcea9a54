-- The specs of the rows of two frames.
pub mod Frames
pub mod SecondRows
