mod MarkupLemmas
mod BandLemmas
pub mod ListLemmas
