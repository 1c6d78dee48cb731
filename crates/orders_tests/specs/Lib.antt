pub mod Reversal
pub mod Strings
pub mod Pieces
