pub mod Answer
pub mod Compile
pub mod Promise
pub mod When
pub mod Writes
