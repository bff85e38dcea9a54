-- Laws that counting by lanes rests on: one flip of a net, the masks of the faults that it serves, and walks along chains.
pub mod Valuations
pub mod Branches
pub mod OneSite
pub mod Settling
pub mod LiveValues
pub mod Chains
pub mod Sources
pub mod Shown
pub mod ChainSteps
pub mod ChainWalks
pub mod LogicFaults
pub mod BranchMasks
pub mod BranchPins
pub mod Flips
pub mod Masks
pub mod Regions
pub mod Suspects
mod ShiftPattern
