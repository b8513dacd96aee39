pub mod RowLemmas
pub mod WriteLemmas
