pub mod TotalQueue
pub mod CountsInside
pub mod Lines
