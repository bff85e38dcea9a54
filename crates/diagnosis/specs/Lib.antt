-- The spec modules: the texts of designs and what bundles stand for, designs, dies and cases.
pub mod Texts
pub mod TextHalts
pub mod ReadDesigns
pub mod Bundle
pub mod Sections
pub mod ReaderAnswers
pub mod Designs
pub mod DesignRows
pub mod LogAddition
pub mod Cases
pub mod Subjects
