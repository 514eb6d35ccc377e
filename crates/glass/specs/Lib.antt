pub mod Pixel
pub mod Answer
pub mod Glass
pub mod When
pub mod Changed
