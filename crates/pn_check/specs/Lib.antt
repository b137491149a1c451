pub mod Checking
pub mod Proofs
pub mod Told
