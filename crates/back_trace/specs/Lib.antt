-- The specs of tracing failing bits back.
pub mod FailRows
pub mod Keys
pub mod SuspectMarks
pub mod CommonPatterns
