-- Laws that belong to no one function.
mod Walk
mod Storing
