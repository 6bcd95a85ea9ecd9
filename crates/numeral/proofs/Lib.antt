-- The lemmas of this crate's proofs.
pub mod Reading
