pub mod Search
pub mod Stamps
pub mod Touches
pub mod Holds
pub mod Admitted
pub mod Histories
