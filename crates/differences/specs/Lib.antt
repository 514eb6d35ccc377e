pub mod Differences
pub mod Which
pub mod Comparison
pub mod LastWriters
pub mod Sides
