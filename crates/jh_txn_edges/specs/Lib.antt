pub mod Steps
pub mod MiddleSteps
pub mod Moments
pub mod Graph
pub mod Inside
pub mod Adding
