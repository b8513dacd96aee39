pub mod Banks
pub mod BankLines
pub mod BankInside
