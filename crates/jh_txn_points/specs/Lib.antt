pub mod Points
pub mod PointSteps
pub mod PointGraph
pub mod ForkGraph
pub mod Inside
pub mod Laws
