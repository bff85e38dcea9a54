-- The spec modules: the words of a run, and its end.
pub mod Words
pub mod RunEnds
