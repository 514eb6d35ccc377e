pub mod Finding
pub mod Looked
pub mod Laws
pub mod Wrong
pub mod CodeWays
