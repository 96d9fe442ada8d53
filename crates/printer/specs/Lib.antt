-- What the printers print: rows of pieces, small printings, and the printing of a tree.
pub mod Layout
pub mod Combine
pub mod Print
pub mod Rows
pub mod Lists
pub mod Under
pub mod Walked
pub mod Reads
pub mod Clauses
