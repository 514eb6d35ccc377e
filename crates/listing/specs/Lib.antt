pub mod Listing
pub mod Order
pub mod ReplayText
pub mod LastWriters
