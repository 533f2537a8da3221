pub mod Written
pub mod ReadItems
pub mod ReadTables
pub mod Rows
pub mod Sizes
pub mod Tallies
pub mod ReadMails
pub mod ReadRecord
