-- What lines do, one after another.
pub mod Events
pub mod Laws
pub mod Written
