pub mod Arithmetic
pub mod Assignment
pub mod Ranges
pub mod Reads
