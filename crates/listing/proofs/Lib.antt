-- Laws that belong to no one function. Those of a `pub mod` are cited by other crates.
mod Decoding
mod Head
mod Items
pub mod Listable
pub mod Refused
pub mod Unlisted
mod Whole
pub mod Writes
mod Writing
