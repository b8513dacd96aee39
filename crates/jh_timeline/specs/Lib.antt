pub mod Lanes
pub mod LanesInside
