pub mod Decimal
pub mod Shown
pub mod Writes
pub mod FrameLemmas
pub mod Results
