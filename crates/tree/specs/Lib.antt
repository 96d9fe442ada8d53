-- Definitions that the contracts cite.
pub mod Tree
pub mod Class
pub mod Refusal
pub mod Clean
pub mod CommentForms
pub mod Answer
pub mod Image
pub mod Index
pub mod Siblings
pub mod Source
