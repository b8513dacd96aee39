pub mod PartLemmas
pub mod HeldLemmas
pub mod SmallestLemmas
pub mod SeedLemmas
pub mod ShownLemmas
pub mod FailLemmas
