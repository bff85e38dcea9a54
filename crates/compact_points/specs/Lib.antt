-- The specs of compactors and of what compact points show.
pub mod Channels
pub mod Compaction
pub mod CompactPoints
