pub mod Adding
pub mod AskedCalls
pub mod AskLines
pub mod AskedBy
pub mod Asking
pub mod Chains
pub mod Entries
pub mod OfForm
pub mod OneEvent
pub mod OneOutcome
pub mod OneStep
pub mod Outcomes
pub mod Playing
mod Samples
pub mod Stopped
pub mod Turns
pub mod Users
