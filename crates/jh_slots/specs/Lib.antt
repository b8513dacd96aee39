pub mod Seats
pub mod States
pub mod Stored
pub mod Codes
pub mod Steps
pub mod Reading
pub mod Events
pub mod Sizes
