pub mod Lines
pub mod Colours
pub mod CodeWays
pub mod Laws
pub mod Wrong
