-- The spec modules: the texts of a design, their bundle, and what is left of a bundle from a line on.
pub mod FourTexts
pub mod Bundle
pub mod BundleRest
pub mod Sections
