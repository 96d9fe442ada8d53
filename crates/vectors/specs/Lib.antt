-- What the contracts cite.
pub mod Replies
