pub mod Rising
pub mod Places
pub mod Mailboxes
pub mod State
pub mod Shown
