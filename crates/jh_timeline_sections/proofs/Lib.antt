pub mod KeyLemmas
mod NemesisLemmas
