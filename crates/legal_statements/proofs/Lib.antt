pub mod Adding
pub mod Asking
pub mod Births
pub mod Dropping
pub mod Finding
pub mod Following
pub mod Holding
pub mod Judging
pub mod Known
pub mod Making
pub mod Marking
pub mod Marks
pub mod Names
pub mod Others
pub mod Pairs
pub mod Stays
pub mod Storing
pub mod There
pub mod Trees
pub mod Whole
mod Alike
mod Behind
pub mod FreshTrees
mod ShownMarks
mod Moved
mod Once
mod Ways
