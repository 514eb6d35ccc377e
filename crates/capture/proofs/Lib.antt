pub mod CodeWays
pub mod Refusals
pub mod Whole
pub mod Lines
pub mod Written
pub mod Courses
pub mod Feeds
pub mod Laws
