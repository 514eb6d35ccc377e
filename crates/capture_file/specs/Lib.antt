pub mod Answers
pub mod Played
