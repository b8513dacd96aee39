pub mod Histories
pub mod ParsingInside
pub mod HistoryAndBelow
