-- Proofs that definitions and contracts need.
pub mod TableLaws
