-- What the calls from a tree image to print items promise: bodies put back, the plain printing, the answer and the lent buffers, what the program prints.
pub mod PutBack
pub mod PlainCombine
pub mod Plain
pub mod Answer
pub mod Reply
pub mod Answered
pub mod Calls
pub mod Program
pub mod Kept
pub mod Examples
