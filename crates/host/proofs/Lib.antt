pub mod CodeWays
pub mod Refusals
pub mod Steps
pub mod Commands
pub mod Counting
pub mod Playing
pub mod Views
pub mod Laws
