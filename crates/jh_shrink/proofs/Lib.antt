pub mod SubsequenceLemmas
pub mod JudgeLemmas
pub mod ChangeLemmas
