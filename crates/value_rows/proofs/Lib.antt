pub mod LaneValues
pub use Rattle.bit_rows.proofs.LaneOps
pub use Rattle.bit_rows.proofs.LaneCounts
