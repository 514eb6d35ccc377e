pub mod Pixels
pub mod Refusals
pub mod CodeWays
pub mod Views
pub mod Levels
pub mod Laws
