pub mod Answer
pub mod Event
pub mod Step
pub mod Run
pub mod PastEntry
pub mod Loop
