pub mod NetRows
pub mod ChainTraces
pub mod SuspectMarks
pub mod Unreached
pub mod Standing
pub mod BothMarks
