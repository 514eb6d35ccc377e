pub mod Command
pub mod When
