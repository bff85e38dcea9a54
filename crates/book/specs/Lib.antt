-- The spec modules: deeds, which lists of them are legal, and what a book holds and answers.
pub mod Deeds
pub mod LegalDeeds
pub mod Answers
pub mod Kinds
pub mod Changes
pub mod Lookups
pub mod Places
pub mod Dies
pub mod State
pub mod ReadyChanges
pub mod ChangeParts
pub mod Rows
pub mod RowsAhead
