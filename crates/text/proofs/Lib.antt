-- Laws that belong to no one function. Those of a `pub mod` are cited by other crates.
pub mod Below
pub mod BlankLines
pub mod Chars
mod Ends
mod Flags
pub mod Lists
mod Owing
pub mod Padding
pub mod Table
mod Trimming
mod Walking
mod WhiteRule
mod WhiteSpace
pub mod Words
