-- The spec modules: a text with the places behind its lines, the words of a candidate, and the lines of candidates in pieces.
pub mod LineEnds
pub mod ScoreWords
pub mod Pieces
