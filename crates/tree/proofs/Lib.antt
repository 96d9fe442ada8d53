-- Laws that belong to no one function. Those of a `pub mod` are cited by other crates.
mod Asciis
pub mod Children
mod Cleaning
mod CommentForms
mod Comments
pub mod Elements
mod Ending
pub mod Ends
mod Filling
pub mod FirstWhere
mod Lengths
mod Numbers
pub mod Options
mod Parts
pub mod Passing
mod Search
pub mod Siblings
mod Sums
mod Tries
mod Verdict
pub mod Walk
pub mod Yielding
