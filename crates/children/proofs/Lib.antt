-- Laws that belong to no one function. Those of a `pub mod` are cited by other crates.
pub mod Among
mod Arounds
mod Glue
mod Growing
pub mod Kids
pub mod Lead
mod Leading
mod Spanning
pub mod Stretch
mod Surveying
mod Tallies
mod Turns
pub mod Uses
pub mod Walks
pub mod Whole
mod Widening
