pub mod Written
pub mod Histories
pub mod ReadingInside
pub mod RefusalInside
