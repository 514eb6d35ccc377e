pub mod Bounds
pub mod TextLines
pub mod CodeWays
pub mod CaptureLines
pub mod Answers
pub mod Laws
pub mod Wrong
