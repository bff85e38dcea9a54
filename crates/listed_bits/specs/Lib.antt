-- What the contracts of listed bits say.
pub mod FailReach
