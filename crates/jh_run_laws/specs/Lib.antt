pub mod OwnHistory
pub mod SameSettings
pub mod RecordedHistory
