pub mod Methods
pub mod Packages
pub mod Relatives
pub mod Walks
