-- What the contracts of tested patterns say.
pub mod TestedMarks
