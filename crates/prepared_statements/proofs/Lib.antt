pub mod Emptied
pub mod Greatest
pub mod Listed
pub mod Firsts
pub mod Loops
pub mod Operands
pub mod Wanting
