pub mod Markup
pub mod Records
pub mod Marks
pub mod Pixels
pub mod Times
pub mod Bands
pub mod Drawings
pub mod Page
