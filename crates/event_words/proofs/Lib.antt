pub mod Fields
pub mod CodeWays
pub mod Known
pub mod Bounds
