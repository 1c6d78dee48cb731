pub mod Reader
pub mod Ordered
pub mod Steps
pub mod Undo
pub mod Writes
pub mod Octet
pub mod TypeLaws
pub mod Slices
