pub mod StaleView
pub mod SetFull
pub mod Lines
pub mod Inside
