pub mod Added
pub mod Few
pub mod Firsts
pub mod Leads
pub mod Once
pub mod Walks
pub mod Ways
