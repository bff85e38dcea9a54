-- What the contracts of single faults say.
pub mod Effect
