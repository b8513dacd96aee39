pub mod NeighbourLemmas
pub mod TextLemmas
