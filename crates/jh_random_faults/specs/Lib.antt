pub mod Draws
pub mod Kinds
pub mod Named
pub mod RandomFaults
pub mod Ids
pub mod Times
