-- The definitions that the contracts cite.
pub mod Faults
pub mod Pairs
pub mod Tables
pub mod Divisions
