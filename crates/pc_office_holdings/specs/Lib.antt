pub mod Held
pub mod Step
pub mod State
