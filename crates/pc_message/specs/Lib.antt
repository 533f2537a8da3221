pub mod Collecting
pub mod Descriptor
pub mod Flags
pub mod Header
pub mod Message
pub mod Recipients
