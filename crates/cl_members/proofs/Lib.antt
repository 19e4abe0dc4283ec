pub mod Lists
pub mod Trees
pub mod Maximal
pub mod Keyed
pub mod Works
pub mod Located
pub mod Owners
pub mod Inside
