-- The spec modules: entries of a die that come again, and the die at its revisions.
pub mod Entries
pub mod Revisions
