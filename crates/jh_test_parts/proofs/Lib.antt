pub mod LineLemmas
pub mod PlaceLemmas
pub mod NamedLemmas
pub mod ChangeLemmas
pub mod ValueLemmas
pub mod TransactionLemmas
