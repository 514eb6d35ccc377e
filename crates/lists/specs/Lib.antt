pub mod Line
pub mod Syntax
pub mod Lists
