pub mod Stands
pub mod Laws
pub mod CodeWays
