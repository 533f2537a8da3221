pub mod OperationLemmas
pub mod ArgumentLemmas
pub mod Grammar
pub mod Faultless
pub mod DecimalLemmas
pub mod Written
mod Samples
