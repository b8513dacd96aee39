pub mod Found
pub mod FoundInside
