pub mod Held
pub mod Answers
pub mod Stored
