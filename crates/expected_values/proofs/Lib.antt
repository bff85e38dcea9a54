pub mod BlockShows
mod ResponseWords
