-- Definitions that the contracts cite.
pub mod Listing
pub mod Examples
pub mod Writes
pub mod Listable
pub mod Shown
pub mod Unlisted
