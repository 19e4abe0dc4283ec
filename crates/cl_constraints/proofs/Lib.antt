pub mod Recording
pub mod Grouping
pub mod Merging
pub mod Pairing
pub mod Naming
pub mod Standing
