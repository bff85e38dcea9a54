pub mod Tables
pub mod CellNets
pub mod SoundChains
pub mod ScanLoop
pub mod SoundPatterns
pub mod PatternLoop
pub mod FirstFaults
