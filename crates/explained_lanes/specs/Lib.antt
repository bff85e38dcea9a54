-- The specs of what explains a failing bit in a block.
pub mod Fails
pub mod Traces
pub mod Slots
