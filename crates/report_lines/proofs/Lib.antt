pub mod LineSteps
mod PieceSteps
