pub mod CodeWays
pub mod Digits
pub mod Laws
pub mod WholeTexts
pub mod Writing
pub mod Wrong
pub mod Chosen
