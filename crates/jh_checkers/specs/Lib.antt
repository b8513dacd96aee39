pub mod Checkers
pub mod Models
pub mod Findings
pub mod Explanations
pub mod Lines
pub mod LinesInside
pub mod RegisterInside
pub mod TransactionsInside
