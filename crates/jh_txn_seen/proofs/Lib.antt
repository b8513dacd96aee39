pub mod ReadLemmas
pub mod MarkLemmas
pub mod MiddleLemmas
pub mod PlaceLemmas
pub mod KnownLemmas
