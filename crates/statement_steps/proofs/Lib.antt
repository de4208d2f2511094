pub mod Numbers
mod Known
mod Left
pub mod Parts
pub mod Steps
pub mod Lasting
pub mod Since
pub mod Waiting
pub mod Owned
pub mod Held
pub mod Rights
pub mod Open
