pub mod State
pub mod Steps
pub mod Laws
pub mod Work
pub mod WorkLaws
pub mod Changed
pub mod AcceptedInside
pub mod NemesisInside
