pub mod Sums
pub mod Hits
pub mod LaneSums
pub mod FlipSums
pub mod PinShares
pub mod TableSums
mod BitCounting
mod AddedShares
pub mod BlockSums
pub mod CandidateRows
mod WholeBlocks
mod WorkLists
pub mod PlaceSums
