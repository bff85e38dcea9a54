-- How a run may end.
pub mod Endings
