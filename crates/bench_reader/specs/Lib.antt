-- What the contracts of netlists' texts say.
pub mod FirstRules
pub mod NetUses
pub mod NetlistDrafts
pub mod FaultlessLines
pub mod CircuitDrafts
