pub mod PlaceLemmas
pub mod DecideLemmas
pub mod SightingLemmas
pub mod SpotLemmas
pub mod TableLemmas
pub mod ResultLemmas
