pub mod DriveShrink
pub mod PartsInside
pub mod ToldInside
pub mod ShrinkInside
