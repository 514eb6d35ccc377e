pub mod Allowed
pub mod Answers
pub mod CodeWays
