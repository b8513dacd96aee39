pub mod Lines
pub mod Answering
pub mod Events
pub mod Endings
pub mod Laws
pub mod ByLines
