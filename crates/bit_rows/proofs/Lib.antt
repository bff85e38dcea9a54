pub mod LaneOps
pub mod LaneCounts
