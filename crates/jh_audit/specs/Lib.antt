pub mod Forms
pub mod Audit
pub mod Plans
pub mod DecodeInside
pub mod HorizonInside
pub mod RepliesInside
