pub mod PutLemmas
pub mod PlainLemmas
pub mod PlainSettingsLemmas
pub mod KeptLemmas
pub mod LimitLemmas
pub mod EntryLemmas
pub mod SettingsLemmas
