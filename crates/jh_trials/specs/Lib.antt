pub mod Trials
pub mod Held
