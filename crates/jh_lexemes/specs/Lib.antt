pub mod Lexemes
pub mod Opened
pub mod Positions
pub mod Laws
