pub mod DriveErrors
pub mod Calls
pub mod Drive
pub mod DriveInside
