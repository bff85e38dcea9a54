pub mod FirstThat
pub mod MoreLogs
pub mod Revisions
pub mod SameViews
