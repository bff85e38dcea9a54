-- The spec modules: kept reports beside the deeds that they are of.
pub mod Truth
