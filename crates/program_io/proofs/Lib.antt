pub mod CodeWays
pub mod Laws
