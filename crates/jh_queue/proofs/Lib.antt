pub mod OrderLemmas
pub mod CountLemmas
pub mod FirstLemmas
pub mod TakesLemmas
