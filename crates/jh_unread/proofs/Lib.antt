pub mod WalkLemmas
pub mod BlankLemmas
pub mod UnchangedLemmas
