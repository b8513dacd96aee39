pub mod WritableEntries
pub mod UpToSchedule
pub mod DocumentWritten
pub mod Inside
