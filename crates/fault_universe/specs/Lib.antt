-- What the contracts of the list of faults say.
pub mod LineWords
pub mod BitRows
pub mod FaultPlaces
pub mod KeptPairs
