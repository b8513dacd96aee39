pub mod Asking
pub mod Healing
pub mod HistoryInside
pub mod TestHistory
