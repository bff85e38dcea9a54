-- The spec modules: the texts of a made design, and the text of `demo`.
pub mod MadeTexts
pub mod Demo
pub mod InjectedFaults
