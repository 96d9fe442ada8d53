-- Laws that belong to no one function. Those of a `pub mod` are cited by other crates.
mod Answers
