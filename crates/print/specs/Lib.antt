pub mod Printed
pub mod Chosen
pub mod Prints
