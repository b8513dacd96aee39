pub mod Parts
pub mod Nesting
pub mod Pairs
pub mod Blanks
pub mod Unread
pub mod Walking
