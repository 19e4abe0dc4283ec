pub mod Commands
pub mod Ending
pub mod Flags
pub mod Orders
pub mod Rows
pub mod Steps
