mod Plans
mod NetForms
mod Keyed
mod NetRounds
mod NetCircuit
mod MadeNames
mod PlanRanges
mod MadePlans
mod MadeText
pub mod MadeCircuit
mod WordTexts
pub mod MadeChains
mod PatternWords
pub mod MadeLoads
mod CsvRows
pub mod MadeNeighbours
