-- The specs of reports, summaries and predicted logs.
pub mod BitTally
pub mod RankNumbers
pub mod Layout
pub mod Summary
pub mod PredictedLog
pub mod WordFails
