pub mod ShareLemmas
pub mod GoodLemmas
pub mod TestLemmas
