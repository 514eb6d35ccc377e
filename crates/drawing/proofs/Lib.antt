pub mod Demand3
pub mod FillPlays
pub mod Fits
pub mod RunPlays
pub mod SetPlays
pub mod SetRows
