pub mod Stands
pub mod CodeWays
pub mod Ranges
pub mod Outcomes
pub mod Laws
pub mod Parts
