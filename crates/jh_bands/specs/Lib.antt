pub mod Bands
pub mod BandsInside
pub mod Lines
pub mod Replay
pub mod Words
pub mod WordsInside
