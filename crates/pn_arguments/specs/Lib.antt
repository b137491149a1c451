pub mod Commands
pub mod OptionTexts
pub mod Options
pub mod Plans
