-- The lemmas of this crate's proofs.
pub mod AnyTable
pub mod Fit
pub mod Turns
