pub mod Below
pub mod Dropped
pub mod Laws
pub mod Made
pub mod Partitions
pub mod Placing
pub mod Tables
