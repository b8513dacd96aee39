pub mod Edits
pub mod ChangesInside
pub mod Shrunk
pub mod ShrinkingInside
