pub mod CodeWays
pub mod Pixels
pub mod Places
pub mod Laws
pub mod Sums
pub mod Turned
