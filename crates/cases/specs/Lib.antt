-- Definitions that the contracts cite.
pub mod Fields
pub mod Stores
pub mod Tally
