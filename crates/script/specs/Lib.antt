pub mod NameText
pub mod TypeText
pub mod Reads
pub mod SetText
pub mod Lines
pub mod LineView
pub mod Record
pub mod FaultText
