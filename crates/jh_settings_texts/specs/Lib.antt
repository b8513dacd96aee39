pub mod Comments
pub mod SettingsWritten
pub mod DocumentWritten
pub mod ScheduleSteps
pub mod StartInside
pub mod TableInside
