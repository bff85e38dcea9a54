-- What the contracts of a netlist's lines say.
pub mod Parts
pub mod Lines
