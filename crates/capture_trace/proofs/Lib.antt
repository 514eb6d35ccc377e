pub mod CodeWays
pub mod Whole
pub mod Parts
pub mod Events
pub mod Tallies
pub mod Displays
pub mod Laws
pub mod Bounds
