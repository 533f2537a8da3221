pub mod History
pub mod Current
pub mod Store
pub mod Opening
pub mod Commit
pub mod Reading
pub mod Fold
