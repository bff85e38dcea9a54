pub mod DemoLines
pub mod DemoLog
pub mod DemoOutput
pub mod DemoPlaces
pub mod DemoView
pub mod FirstPlace
pub mod MorePieces
pub mod MoreDraws
pub mod GateLines
mod MadeReading
