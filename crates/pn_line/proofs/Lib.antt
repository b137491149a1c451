pub mod LineLaws
pub mod SentLaws
pub mod TextLaws
