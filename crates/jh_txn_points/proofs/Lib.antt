pub mod PointStepLemmas
pub mod SoundLemmas
pub mod WholeLemmas
pub mod ForkStepLemmas
pub mod PointListLemmas
pub mod ForkLemmas
