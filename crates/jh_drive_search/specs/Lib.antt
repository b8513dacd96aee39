pub mod DriveSearch
pub mod SearchInside
