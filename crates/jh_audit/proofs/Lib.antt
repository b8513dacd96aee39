pub mod ChoiceLemmas
pub mod FormLemmas
pub mod ReplyValueLemmas
pub mod AuditLemmas
pub mod TurnLemmas
