-- Definitions that the contracts cite.
pub mod Item
pub mod Role
pub mod Lines
pub mod Names
pub mod Records
pub mod Machine
pub mod Entry
