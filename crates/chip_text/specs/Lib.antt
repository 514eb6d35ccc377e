pub mod ChipText
