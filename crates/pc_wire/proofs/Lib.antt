pub mod AheadLemmas
pub mod PlaceLemmas
pub mod LineLemmas
pub mod FeedLemmas
pub mod WordLemmas
pub mod DecimalLemmas
pub mod ReaderLemmas
pub mod BodyLemmas
pub mod BodyFeedLemmas
pub mod WritingLemmas
mod BodySamples
mod Samples
