-- The specs of tests with a compactor.
pub mod ChannelText
pub mod ChannelReading
pub mod CompactLog
pub mod CompactMatches
pub mod Flips
pub mod CompactReport
pub mod ObservationPoints
pub mod CompactModel
pub mod ShownFlips
pub mod CompactCounts
pub mod TracedBits
