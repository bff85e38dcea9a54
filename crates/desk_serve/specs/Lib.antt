-- What the run of `serve` does and writes.
pub mod Lines
pub mod HomeDoors
pub mod Runs
pub mod Doors
pub mod Work
pub mod StreetEnd
pub mod Refusals
