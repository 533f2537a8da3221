pub mod Asking
pub mod Base
pub mod Desk
pub mod Enrolling
pub mod Folded
pub mod Sessions
pub mod Single
