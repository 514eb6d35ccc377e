pub mod WrittenCells
pub mod Lines
pub mod CodeWays
pub mod LastWriters
pub mod Laws
pub mod Wrong
