-- The names that contracts of the crates above cite, passed on by one module. Declares nothing.
pub use Rattle.pn_line.specs.Line.{kept_bytes, so_far, HasShown, IsUnbroken}
pub use Rattle.pn_line.specs.Sent.{AppendsPrefix, Sends, WouldBlock}
pub use Rattle.pn_line.specs.Text.{text_of}
