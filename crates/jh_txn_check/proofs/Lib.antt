pub mod BoundLemmas
mod FoundLemmas
