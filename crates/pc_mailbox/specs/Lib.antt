pub mod Growth
pub mod Mailbox
pub mod UpdateList
pub mod Histories
