mod Fitting
mod Texts
pub mod PlaceSums
mod Disagreeing
pub mod Tables
mod PinTables
mod Listed
mod Ranges
mod Trying
mod BlockFits
pub mod FittingCandidates
pub mod Counting
mod KeptFits
pub mod FirstLast
pub mod NarrowedMarks
