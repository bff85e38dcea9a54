pub mod WordFacts
pub mod PlainWords
pub mod Steps
pub mod OfForms
pub mod Assignment
pub mod Sound
pub mod Taken
