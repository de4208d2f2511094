pub mod Commands
pub mod Expressions
pub mod Queries
pub mod Statements
