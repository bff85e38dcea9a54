-- What the contracts of scan and pattern texts say.
pub mod NamedChains
pub mod ScanDrafts
pub mod Frames
