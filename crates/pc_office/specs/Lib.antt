pub mod Limits
pub mod Plan
pub mod Machine
pub mod FitsAfter
pub mod Following
