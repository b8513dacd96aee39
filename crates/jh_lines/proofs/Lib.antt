pub mod LineLemmas
pub mod LawLemmas
pub mod TalkLemmas
pub mod StreamLemmas
pub mod ByLinesLemmas
