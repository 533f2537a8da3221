pub mod Runs
mod NoteLemmas
mod ReplayLemmas
mod StateLemmas
mod Samples
mod FolderLemmas
pub mod StepRuns
