pub mod NeighbourLemmas
pub mod SoundLemmas
pub mod MarkLemmas
pub mod ElementLemmas
pub mod ReadLemmas
pub mod ViewLemmas
