pub mod Limits
pub mod Takes
pub mod TextErrors
pub mod Moments
pub mod Entries
pub mod Generators
pub mod Reasons
