-- Laws of made designs: what their texts stand for.
pub mod Draws
pub mod MadeNetlist
pub mod MadeScan
pub mod MadePatterns
pub mod MadePairs
