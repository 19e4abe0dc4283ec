pub mod Units
pub mod Types
pub mod Reading
pub mod Answers
pub mod Pieces
