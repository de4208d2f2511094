mod Analyzed
pub mod Custom
pub mod Few
pub mod Giving
mod Joins
mod Kept
mod Known
pub mod Moments
mod Named
mod Naming
mod Nodes
pub mod Numbers
pub mod Plain
mod Scopes
mod Straight
mod Steps
mod Trees
mod Whole
mod Written
