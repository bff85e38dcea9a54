pub mod ChainLengths
pub mod ShownCells
pub mod PointsThere
pub mod CompactRows
