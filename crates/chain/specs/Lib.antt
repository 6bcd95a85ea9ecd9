-- What the steps of pairs and numbers are, do and weigh: the definitions that the contracts cite.
pub mod Faults
pub mod Chains
pub mod Laid
pub mod Weights
