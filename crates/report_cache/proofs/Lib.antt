pub mod Longer
mod Kept
