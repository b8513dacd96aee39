mod MarkLemmas
pub mod QueueLemmas
mod CallLemmas
