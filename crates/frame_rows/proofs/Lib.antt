pub mod SecondValues
pub mod NextFrame
pub mod LaneReads
