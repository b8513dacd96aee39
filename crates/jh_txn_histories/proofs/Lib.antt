pub mod ReadLemmas
pub mod LeastLemmas
pub mod NoteLemmas
pub mod GrowLemmas
pub mod AppendLemmas
pub mod NumberedLemmas
pub mod RefusalLemmas
