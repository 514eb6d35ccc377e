pub mod Answers
pub mod Some
