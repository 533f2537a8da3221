pub mod ReadList
pub mod Saving
pub mod Numbered
pub mod Legal
pub mod Renumbered
pub mod Recorded
pub mod Loading
