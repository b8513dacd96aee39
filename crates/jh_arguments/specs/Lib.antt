pub mod Palettes
pub mod Limits
pub mod Line
pub mod Accounts
pub mod Commands
pub mod Answers
