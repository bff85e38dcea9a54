-- The specs of expected values.
pub mod ResponseWords
