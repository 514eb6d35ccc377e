pub mod Demand3
pub mod Laws
pub mod Low
pub mod OnBus
