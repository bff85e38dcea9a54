pub mod Ranges
pub mod SweptBack
pub mod Points
pub mod ToldLanes
pub mod Explained
pub mod Slots
