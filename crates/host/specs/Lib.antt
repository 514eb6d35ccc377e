pub mod Calls
pub mod Compiling
pub mod Counting
pub mod Views
pub mod Pulses
pub mod Playing
