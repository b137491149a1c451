-- The names that contracts of the crates above cite, passed on from one place. Declares nothing.
pub use Rattle.pn_record.specs.Grammar.{value_in, IsOfValue, image_in}
pub use Rattle.pn_record.specs.Reading.{is_image, reading, value_at, body_rises}
pub use Rattle.pn_record.specs.Cells.{Entries, adds, table_of, SameImages, spell, spell_cell, NotOlder}
pub use Rattle.pn_record.specs.Showing.{shown_code, holds_number, shown_body, shown_field, shown_ref, shown_value}
pub use Rattle.pn_record.specs.Limits.{FieldValue, is_field, is_key, max_line_bytes, number_value, text_value}
pub use Rattle.pn_record.specs.Sets.{bytes_cmp, value_cmp, CellValue, HasContents, Stamp, cell_joined}
pub use Rattle.pn_record.specs.Writing.{body_tokens, field_tokens, fields_data, image_data, value_data}
