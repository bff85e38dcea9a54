pub mod CutSteps
pub mod CopySteps
