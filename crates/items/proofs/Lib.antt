-- Laws that belong to no one function. Those of a `pub mod` are cited by other crates.
pub mod Decimals
pub mod Decoding
pub mod Emits
pub mod Escapes
pub mod Fits
pub mod Laws
pub mod Lengths
mod Naming
mod Numbers
mod Signals
mod Stores
