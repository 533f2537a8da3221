mod Allowed
mod Bounds
mod Letters
mod Names
mod Rooms
pub mod States
mod Sums
