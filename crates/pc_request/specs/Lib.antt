pub mod Operation
pub mod Argument
pub mod Request
pub mod Fault
pub mod Reading
