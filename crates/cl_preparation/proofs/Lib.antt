pub mod Constraints
pub mod Flags
pub mod Interfaces
pub mod Keys
pub mod Named
pub mod Reached
pub mod Walking
