pub mod Buffers
pub mod BusCall
