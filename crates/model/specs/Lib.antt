pub mod Zones
pub mod Chains
pub mod Records
pub mod Asks
pub mod Judges
pub mod Edits
pub mod Examples
