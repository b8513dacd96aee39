pub mod Lists
pub mod Grudges
pub mod Marks
pub mod Ranks
pub mod Laws
