pub mod Assembled
pub mod Assemblies
pub mod Described
pub mod Faults
pub mod Items
pub mod Listings
pub mod Statements
pub mod Texts
