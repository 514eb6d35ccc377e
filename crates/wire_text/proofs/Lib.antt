pub mod Samples
pub mod CodeWays
pub mod Cuts
pub mod Bounds
pub mod Laws
pub mod Known
