pub mod BalanceLemmas
pub mod ReadLemmas
pub mod FarthestLemmas
pub mod ErringLemmas
pub mod LineLemmas
