pub mod Wire
pub mod Canonical
pub mod Laws
pub mod Types
pub mod Refusals
pub mod View
pub mod TypeView
pub mod Orders
