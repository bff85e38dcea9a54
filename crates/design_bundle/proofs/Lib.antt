pub mod Pieces
pub mod BundleRests
pub mod BundleFaults
