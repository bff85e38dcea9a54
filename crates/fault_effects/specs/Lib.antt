-- The specs of what faults do in a block.
pub mod FaultModel
pub mod Shares
pub mod Owners
pub mod Pieces
pub mod Readers
pub mod FlipOrder
pub mod Regions
pub mod CachedFlips
pub mod SoundWork
pub mod Tables
pub mod Notes
pub mod ChainWork
pub mod Walks
pub mod PinFlips
