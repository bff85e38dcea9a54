pub mod Segments
pub mod Members
pub mod ResourceTags
pub mod Answered
mod FittingPlaces
pub mod Gets
pub mod Puts
pub mod PutSigns
pub mod SignKnown
pub mod SeatSteps
pub mod KeptReports
pub mod DeskSeat
