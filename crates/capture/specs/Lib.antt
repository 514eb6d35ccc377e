pub mod Reading
pub mod Replay
pub mod Feeding
pub mod Where
pub mod Lines
pub mod Cells
