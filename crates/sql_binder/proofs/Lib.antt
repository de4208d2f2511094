pub mod Bare
pub mod Conditions
pub mod Earlier
pub mod EarlierColumns
pub mod FirstOutputs
pub mod Joins
pub mod Parts
pub mod Places
pub mod Settings
pub mod Steps
mod WithoutParams
pub mod WrittenOut
