-- Laws that belong to no one function. Those of a `pub mod` are cited by other crates.
mod Agree
mod Answering
mod Bound
mod Calls
mod Columns
mod Counted
mod Examples
mod Fitted
mod Kept
mod Modes
mod Numbers
pub mod Responses
mod Room
mod Tests
mod Weights
