-- Laws that belong to no one function. Those of a `pub mod` are cited by other crates.
mod Chosen
mod Listing
mod Looking
mod Marking
mod Nodes
mod Printed
mod Readings
mod Rowing
mod Seq
mod Single
mod Sources
mod Tables
mod Under
mod Walked
mod Walking
