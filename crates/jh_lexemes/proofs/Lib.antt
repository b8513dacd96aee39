pub mod FrontLemmas
pub mod QuotedLemmas
pub mod LexemesLemmas
pub mod OpenedLemmas
pub mod CitedLemmas
pub mod PositionLemmas
pub mod WholeLemmas
