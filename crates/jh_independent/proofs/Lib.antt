pub mod SameKeyLemmas
pub mod SplitLemmas
pub mod KeyHistoryLemmas
pub mod FoundLemmas
pub mod HistoryLemmas
pub mod LawLemmas
pub mod SharingLemmas
