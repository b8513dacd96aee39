pub mod Reads
pub mod Marks
pub mod Middles
pub mod Places
pub mod Inside
