-- Definitions that the contracts cite.
pub mod Basic
pub mod Text
pub mod Owed
pub mod Places
pub mod Words
pub mod Lent
