pub mod Counted
mod Cuts
pub mod Fixed
mod Growing
mod Lower
mod Once
mod Runs
pub mod StatementsOnce
mod Steps
pub mod TextReadings
mod Waiting
mod Weights
pub mod Whole
mod Lasting
mod Prepared
