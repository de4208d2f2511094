pub mod BlockLaws
pub mod CommandLaws
pub mod NameFirst
pub mod Openings
pub mod Starts
pub mod StatementLaws
pub mod TextLaws
pub mod ZeroLaws
mod EndedCode
pub mod EndedLaws
pub mod ItemLaws
pub mod QueryLaws
pub mod SettingLaws
pub mod Splits
mod StepCode
pub mod WordBehind
