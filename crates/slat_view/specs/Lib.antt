-- The specs of patterns that one fault explains.
pub mod Slat
pub mod Places
pub mod Trials
pub mod StraightPins
pub mod FitWork
pub mod SameTables
pub mod Tests
pub mod SlatText
pub mod WholeCounts
pub mod Ends
pub mod FitMarks
