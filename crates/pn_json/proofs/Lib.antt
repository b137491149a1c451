pub mod AppendedTexts
pub mod LookUps
