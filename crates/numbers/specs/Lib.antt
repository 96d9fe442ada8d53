-- Definitions that the contracts cite.
pub mod Mode
pub mod Refusal
