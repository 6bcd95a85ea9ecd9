pub mod Rows
pub mod Releasing
pub mod Numbers
pub mod Memory
pub mod Weights
