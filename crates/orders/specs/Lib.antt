pub mod Ring
pub mod Places
pub mod Salts
pub mod ByName
pub mod Hashes
pub mod Strings
