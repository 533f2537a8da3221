pub mod Answers
pub mod Digest
pub mod Limits
pub mod LookUps
pub mod Plan
pub mod Taking
pub mod Laws
