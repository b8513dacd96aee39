pub mod Numbers
pub mod Writers
pub mod TableInside
