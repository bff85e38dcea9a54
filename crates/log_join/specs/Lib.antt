-- What the contracts of joined logs say.
pub mod Joining
pub mod CoverageBits
