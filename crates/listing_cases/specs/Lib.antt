-- What the program is run on.
pub mod Cases
