pub mod Phases
pub mod Changes
pub mod Interface
