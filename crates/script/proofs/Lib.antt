pub mod NameRound
pub mod NameSteps
pub mod NamePrint
pub mod TypeSteps
pub mod TypeRound
pub mod SetSteps
pub mod LineSteps
