pub mod Judged
pub mod SerialInside
pub mod Nodes
pub mod UntoldInside
pub mod TurnsInside
