pub mod CodeWays
pub mod Devices
pub mod Numbers
pub mod Laws
