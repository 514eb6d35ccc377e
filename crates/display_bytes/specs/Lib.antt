pub mod Stretch
pub mod Lanes
