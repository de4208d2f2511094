pub mod Born
pub mod Inserted
pub mod Asked
