pub mod KeyLemmas
pub mod ElementLemmas
pub mod StartLemmas
pub mod EntryLemmas
pub mod GeneratorLemmas
pub mod OrderLemmas
pub mod PlanLemmas
