pub mod NumberLemmas
pub mod KeyLemmas
