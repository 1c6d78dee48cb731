pub mod Sums
pub mod Sha
pub mod Runs
pub mod Examples
pub mod Octets
