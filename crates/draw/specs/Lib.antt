pub mod Lines
pub mod Refusal
