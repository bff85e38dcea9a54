mod Carries
pub mod Shown
