pub mod Kept
pub mod Routes
pub mod Searches
pub mod Walks
pub mod Worlds
