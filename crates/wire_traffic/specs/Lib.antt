pub mod Calls
pub mod Traffic
pub mod Unclear
pub mod When
