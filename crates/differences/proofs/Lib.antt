pub mod CodeWays
pub mod Differs
pub mod LastWriters
pub mod Laws
pub mod Lines
pub mod Refusals
pub mod Wrong
