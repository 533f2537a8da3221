pub mod Saving
pub mod Loading
pub mod ReadKept
