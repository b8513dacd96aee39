pub mod Queue
pub mod QueueInside
pub mod Lines
