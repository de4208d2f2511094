pub mod Conditions
pub mod Keys
pub mod Names
pub mod Nodes
pub mod Plans
pub mod ScanLines
