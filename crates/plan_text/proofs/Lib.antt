mod ScanLines
pub mod Told
