pub mod Candidates
pub mod CandidatesInside
pub mod Search
pub mod SearchInside
