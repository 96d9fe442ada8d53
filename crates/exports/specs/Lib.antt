-- Definitions that the contracts cite.
pub mod Comment
pub mod Refusal
pub mod Print
