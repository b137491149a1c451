-- The names that contracts of the crates above cite, passed on from one place. Declares nothing.
pub use Rattle.pn_json.specs.Tokens.{AppendsText, MakesPiece, line_of, Appends, IsBegun, member_tokens, value_tokens, values_tokens}
pub use Rattle.pn_json.specs.Answers.{IsUnless, Shows, ShowsUnless}
pub use Rattle.pn_json.specs.Members.{each_in, member_as, only_named, seen, seen_text, signed_number, text_at, texts, whole_number}
