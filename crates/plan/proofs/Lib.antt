-- Laws that belong to no one function. Those of a `pub mod` are cited by other crates.
mod Steps
mod Ends
pub mod Laws
pub mod Loads
pub mod Noted
mod Still
mod Texts
pub mod Whole
mod Written
