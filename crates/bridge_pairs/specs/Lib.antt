-- What the contracts of lists of neighbouring nets say.
pub mod PairText
pub mod PairSets
pub mod FieldViews
pub mod NamedPairs
pub mod Ranks
pub mod PairRows
pub mod StartPlaces
