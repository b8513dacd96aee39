pub mod Shown
pub mod Outcomes
pub mod Gather
pub mod RecordsInside
pub mod GatherInside
pub mod TablesInside
