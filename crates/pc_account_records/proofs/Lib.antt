mod ReadLists
mod ReadMailboxes
mod ReadRecord
mod ReadTables
mod Written
pub mod Following
