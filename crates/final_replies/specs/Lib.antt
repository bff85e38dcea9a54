-- What a final reply is, and what was sent of it.
pub mod FinalReplies
