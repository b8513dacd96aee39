pub mod WalkLemmas
pub mod FilterLemmas
pub mod HubLemmas
