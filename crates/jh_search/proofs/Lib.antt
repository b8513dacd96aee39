mod CandidateLemmas
mod SearchLemmas
