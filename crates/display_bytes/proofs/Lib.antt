pub mod Lanes
pub mod PackedWays
pub mod Ways
