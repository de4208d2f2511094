pub mod Cleaning
mod Asked
mod Fitted
mod Judged
mod Leaves
mod Tellings
mod RowsOf
pub mod Sets
mod Waiting
pub mod Same
pub mod Deeds
pub mod Firsts
pub mod Below
pub mod Locks
pub mod Beside
pub mod Levels
pub mod Checks
pub mod Shapes
