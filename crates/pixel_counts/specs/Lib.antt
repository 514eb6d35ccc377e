pub mod Counts
pub mod Mending
pub mod Packed
