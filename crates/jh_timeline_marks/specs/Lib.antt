pub mod Marked
pub mod MarkedInside
