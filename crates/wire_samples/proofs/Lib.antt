pub mod Again
pub mod Joined
pub mod SoFar
pub mod Tested
pub mod Refused
