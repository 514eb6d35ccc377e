pub mod Picture
pub mod Order
