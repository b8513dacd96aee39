pub mod StepLemmas
pub mod ReadStepLemmas
pub mod MiddleStepLemmas
pub mod MomentLemmas
pub mod GraphLemmas
