pub mod RowByte
pub mod CodeWays
