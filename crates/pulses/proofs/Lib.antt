pub mod Refusals
pub mod Rows
pub mod Rounds
pub mod Shown
pub mod Numbers
pub mod CodeWays
pub mod Laws
