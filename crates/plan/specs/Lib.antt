-- Operations, what they print, and the contracts of planners and writers.
pub mod Words
pub mod Ops
pub mod Load
pub mod Plans
pub mod Comments
