pub mod CodeWays
pub mod Digits
pub mod WholeLines
pub mod Pins
pub mod Laws
