pub mod CountLemmas
pub mod TallyLemmas
pub mod DrainLemmas
