pub mod Labels
pub mod Axes
pub mod Points
pub mod Lines
pub mod Pictures
pub mod Page
