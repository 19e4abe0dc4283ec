pub mod Books
pub mod Singles
pub mod Records
pub mod Groups
pub mod Pairs
pub mod Named
pub mod Laws
