pub mod Endings
pub mod Members
pub mod Symbols
pub mod Asking
