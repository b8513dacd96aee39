pub mod Findings
pub mod CycleNames
pub mod Lines
pub mod Found
pub mod TextInside
pub mod NeighboursInside
