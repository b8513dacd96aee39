mod ActiveLemmas
mod BandLemmas
mod EditLemmas
mod HistoryLemmas
mod LineLemmas
mod MomentLemmas
mod ReplayLemmas
mod WordsLemmas
