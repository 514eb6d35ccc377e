pub mod Demand3
pub mod Plain
pub mod Stream
