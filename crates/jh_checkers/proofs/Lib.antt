pub mod LineLawLemmas
pub mod LawLemmas
pub mod StuckLemmas
pub mod RefusalLemmas
pub mod BecauseLemmas
