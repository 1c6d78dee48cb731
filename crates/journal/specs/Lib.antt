pub mod Notes
pub mod View
pub mod State
pub mod Rising
