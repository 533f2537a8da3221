pub mod Area
pub mod Numbers
pub mod Reading
pub mod Untouched
pub mod Opening
pub mod Logs
pub mod Making
