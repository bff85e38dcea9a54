mod SmallTexts
mod C17
mod ChainRows
pub mod Orders
pub mod Gates
pub mod Along
pub mod NetValues
pub mod FanSweeps
pub mod Folds
pub mod Assigned
pub mod Inputs
pub mod Outputs
pub mod Points
pub mod Sites
pub mod Levels
pub mod GateSearch
pub mod GateSteps
pub mod GateOrder
pub mod PinCounts
pub mod BitTables
pub mod Definite
pub mod FaultSteps
pub mod FirstFaults
pub mod TextRules
pub mod PointCount
pub mod LevelTests
pub mod CandidatePlaces
pub mod ExpectedRows
pub mod Cells
pub mod Loads
pub mod MoreDefinite
pub mod counting
pub mod WordMasks
