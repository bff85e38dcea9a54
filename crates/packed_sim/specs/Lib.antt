-- The specs of simulation by rows.
pub mod Rows
pub mod Propagation
pub mod PackedParts
pub mod OperandValues
pub mod ChainLoads
pub mod Changes
