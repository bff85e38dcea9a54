-- The spec modules: the words of commands, and what they ask for.
pub mod Words
pub mod Arguments
pub mod Table
pub mod RightWords
pub mod Invocations
pub mod CommandViews
pub mod ClapCommands
