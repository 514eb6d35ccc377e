pub mod Pulse
pub mod Answer
pub mod Row
pub mod When
pub mod Frames
