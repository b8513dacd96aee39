pub mod ListLemmas
pub mod LinkLemmas
pub mod GrudgeLemmas
pub mod FaultTextLemmas
pub mod FaultOrderLemmas
