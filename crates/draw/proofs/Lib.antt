pub mod CodeWays
