-- What stands at the front of bytes, and what reading it from a connection does.
pub mod Heads
pub mod Items
pub mod Fields
pub mod SeenHeads
pub mod InboxReads
