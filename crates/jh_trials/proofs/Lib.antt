pub mod TrialLemmas
pub mod HeldLemmas
