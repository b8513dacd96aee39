pub mod Graphs
pub mod WalkInside
pub mod HubsInside
