-- The names that contracts of the crates above cite, passed on from one place. Declares nothing.
pub use Rattle.pn_protocol.specs.Command.Controls.{ControlValue, control_at, control_value}
pub use Rattle.pn_protocol.specs.Command.Words.{kind_at}
pub use Rattle.pn_protocol.specs.Command.Lines.{command_at, is_too_long}
pub use Rattle.pn_protocol.specs.Command.Lookups.{AsksForRecords}
pub use Rattle.pn_protocol.specs.Command.Meaning.{command_value, copy, deliver, get, lose, notices, read, relayout, scan}
pub use Rattle.pn_protocol.specs.Reply.Records.{found_since}
pub use Rattle.pn_protocol.specs.Reply.Short.{lines_data, served_line}
pub use Rattle.pn_protocol.specs.Reply.Texts.{is_refusal, reply_text}
