pub mod Ranked
mod RankNumbers
mod TallySteps
mod PageSteps
mod SummarySteps
mod OpeningSteps
mod FailSteps
mod Bools
mod BitRanges
mod OwnLog
pub mod PlainWords
pub mod NumberWords
mod LogForms
mod LogRules
mod ListedBits
mod LogWalk
mod LogBits
mod RoundTrip
pub mod GivenRows
pub mod CutLines
