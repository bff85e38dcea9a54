-- The specs of rows of 512 values, and of the kinds of patterns.
pub mod Kinds
pub mod Planes
pub use Rattle.bit_rows.specs.Lanes
