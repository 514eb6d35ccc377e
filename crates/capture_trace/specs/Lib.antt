pub mod Done
pub mod Follow
pub mod Told
pub mod Courses
