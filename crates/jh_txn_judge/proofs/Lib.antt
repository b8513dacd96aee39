pub mod DependLemmas
pub mod PathLemmas
pub mod ChosenLemmas
pub mod WholeLemmas
pub mod ForkLemmas
pub mod JudgeLemmas
