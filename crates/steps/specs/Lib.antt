-- What registers, steps, step words and lists of steps mean: the definitions that the contracts cite.
pub mod Registers
pub mod Sets
pub mod Faults
pub mod Steps
pub mod Words
pub mod Texts
pub mod Fullness
pub mod Tables
pub mod Columns
pub mod Plans
