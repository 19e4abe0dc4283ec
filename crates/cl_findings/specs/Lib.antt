pub mod Bases
pub mod Findings
pub mod Laws
pub mod Loads
pub mod References
pub mod Tables
