pub mod Alone
pub mod Cutting
pub mod Digits
pub mod Headings
pub mod OneReading
pub mod Refusals
pub mod Storing
