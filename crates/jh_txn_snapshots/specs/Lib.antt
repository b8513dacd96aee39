pub mod NextPoints
pub mod SaidByReads
pub mod KeptPoints
pub mod Untold
pub mod PointCycles
pub mod Overlaps
pub mod AtOnce
pub mod Laws
