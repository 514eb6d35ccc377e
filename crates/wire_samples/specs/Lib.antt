pub mod Signal
pub mod Sample
pub mod Feed
