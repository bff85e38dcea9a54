-- The specs of counting how faults match a log.
pub mod Tally
pub mod Hits
pub mod Flips
pub mod Tables
pub mod Sides
pub mod PlaceCounts
pub mod SameTables
pub mod PointCounts
pub mod Totals
pub mod WorkPieces
