mod Steps
mod CoverSteps
mod Joins
pub mod AnyOrder
pub mod Fitting
