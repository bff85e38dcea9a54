-- The spec modules: what commands read, what they come to, and how they end.
pub mod FileReadings
pub mod Work
pub mod Demo
pub mod Commands
pub mod CommandStops
pub mod CommandEnds
pub mod Logs
pub mod Views
pub mod Designs
pub mod Dies
