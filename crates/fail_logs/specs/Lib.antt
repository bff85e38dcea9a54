-- What the contracts of fail logs say.
pub mod LogViews
pub mod Frames
pub mod BitNumbers
pub mod LineTargets
pub mod PlainLines
pub mod GoodFails
pub mod HeaderLines
pub mod LogDrafts
pub mod LineFacts
pub mod Places
pub mod FrameFacts
pub mod RisingNumbers
pub mod Groups
pub mod ReadResultsV1
