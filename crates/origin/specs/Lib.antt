pub mod Origin
pub mod Call
pub mod Answer
