pub mod Lines
pub mod StepLines
pub mod HistoryLines
pub mod EqualResults
