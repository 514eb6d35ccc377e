pub mod Line
pub mod SoFar
pub mod Events
