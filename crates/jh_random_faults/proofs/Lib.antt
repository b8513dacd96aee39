mod DrawLemmas
pub mod FaultLemmas
mod KindLemmas
pub mod StepLemmas
