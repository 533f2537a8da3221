pub mod Lines
pub mod Words
pub mod LineFeed
pub mod Next
pub mod Reader
pub mod Reading
pub mod Body
pub mod BodyFeed
