pub mod NumberLemmas
pub mod AgreeLemmas
pub mod NamedLemmas
