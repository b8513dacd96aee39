pub mod Keys
pub mod Histories
pub mod Lines
pub mod Refusals
pub mod SplitInside
pub mod PartsInside
pub mod AnswersInside
pub mod FoundInside
