pub mod Mailboxes
pub mod State
pub mod Following
