pub mod Limits
pub mod Parsed
pub mod Refusals
pub mod Settings
pub mod Inside
