pub mod Capture
pub mod Parts
