pub mod Numbers
pub mod View
pub mod SameInside
