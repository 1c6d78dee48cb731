pub mod Octets
pub mod Root
