pub mod Codec
pub mod ClassNames
pub mod Fields
pub mod Loop
pub mod Methods
pub mod Outcomes
pub mod Equality
pub mod Forms
