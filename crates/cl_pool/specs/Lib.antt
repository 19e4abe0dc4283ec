pub mod Numbers
pub mod Seats
pub mod Texts
pub mod Served
