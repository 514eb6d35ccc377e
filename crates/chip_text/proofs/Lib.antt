pub mod CodeWays
pub mod Bounds
pub mod Known
