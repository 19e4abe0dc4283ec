pub mod Bundles
pub mod Contents
pub mod Cuts
pub mod Faults
pub mod Sections
