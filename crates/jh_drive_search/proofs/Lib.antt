pub mod TriedLemmas
pub mod FoundLemmas
