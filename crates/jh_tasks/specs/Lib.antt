pub mod Answers
pub mod Threads
