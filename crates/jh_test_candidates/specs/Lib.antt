pub mod Candidates
pub mod CandidatesInside
