-- Definitions that the contracts cite.
pub mod Reading
pub mod Gaps
pub mod Whole
pub mod Stretch
pub mod Tally
pub mod Spans
pub mod Lead
pub mod Between
