pub mod Ending
pub mod Fault
pub mod FieldBytes
pub mod Fields
pub mod Fitting
pub mod Format
pub mod MessageFormat
pub mod Spelled
