pub mod FaultText
pub mod Table
