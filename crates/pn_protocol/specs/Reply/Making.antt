-- The text of rows that is still to be made, and what the records of a reply weigh.
use Rattle.std.specs.Prelude.{◌≡◌, ◌≤◌, ◌+◌, ◌==◌, if◌then◌else◌, ◌<◌, ℕ, zero, suc, Bool, true, nat_lt, List, [], ◌∷◌, ◌++◌, length, map, drop, codes, zip, Option, None, Some, IfSome, Vec, ◌-◌, ◌^◌, min}
use Rattle.std.specs.declared.alloc.Global.{Global}
use Rattle.std.specs.FinMap.{keys}
use Rattle.std.specs.List.{slice_get, sum_by}
use Rattle.json.specs.Print.{quoted}
use Rattle.serde_json.specs.Data.{Data}
use Rattle.serde_json.specs.View.{items_of}
use Rattle.serde_json.specs.Written.{compact_text, comma_if, items_text}
use Rattle.pn_json.specs.Prelude.{AppendsText}
use Rattle.pn_record.specs.Sets.{CellValue, state_of}
use Rattle.pn_record.specs.Writing.{content_data, version_data}
use Rattle.pn_tablet.specs.Tablets.{record_weight}
use Rattle.pn_protocol.specs.declared.reply.rows_text.TheConstants.{MAX_PART_BYTES}
use Rattle.pn_protocol.specs.declared.reply.rows_text.RowsCursor.{RowsCursor}
use Rattle.pn_protocol.specs.declared.reply.rows_text.RowsCursor.TheVariants.{Record, End}
use Rattle.pn_protocol.specs.declared.reply.shown_records.ShownRecords.{ShownRecords}
use Rattle.pn_protocol.specs.Reply.Records.{row_or_null, state_word}
use Rattle.pn_protocol.specs.declared.reply.shown_records.ShownRecords.TheVariants as shown

-- The text of rows that is still to be made.

-- a key with its cell, if there is one
abbrev pub Found : Type 0
Found = List ℕ × Option CellValue

-- the row of a record, or null
abbrev pub record_data : Found → Data
record_data found = row_or_null found.0 found.1

-- its text
abbrev pub record_text : Found → List ℕ
record_text found = compact_text (record_data found)

-- records as rows, with a comma before all but the first, and what comes after them
abbrev pub rows_text : Bool → List Found → List ℕ → List ℕ
rows_text later [] end = end
rows_text later (found ∷ records) end = comma_if later ++ (record_text found ++ rows_text true records end)

-- what comes before a content of a row
abbrev pub before_text : ℕ → List ℕ
before_text zero = codes "{\"contents\":["
before_text (suc n) = codes ","

-- what comes after the contents of a row
abbrev pub row_end : List ℕ → CellValue → List ℕ
row_end key cell =
    codes ",\"key\":" ++ (quoted key ++ (codes ",\"state\":\"" ++ (state_word (state_of cell) ++ (codes "\",\"version\":" ++ (compact_text (version_data cell.0) ++ codes "}")))))

-- the text of a record from a content on
abbrev pub record_rest : ℕ → Found → List ℕ
record_rest zero found = record_text found
record_rest (suc n) (key, None) = []
record_rest (suc n) (key, Some cell) = items_text true (items_of (map content_data (drop (suc n) (keys cell.1)))) ++ row_end key cell

-- the records' text from a content of the first on, and what comes after them
abbrev pub rest_from : ℕ → List Found → List ℕ → List ℕ
rest_from content [] end = end
rest_from content (found ∷ records) end = record_rest content found ++ rows_text true records end

-- the records' text from a content of a record on
abbrev pub records_rest : List Found → List ℕ → ℕ → ℕ → List ℕ
records_rest records end index zero = rows_text (nat_lt 0 index) (drop index records) end
records_rest records end index (suc n) = rest_from (suc n) (drop index records) end

-- the records' text from a cursor on
abbrev pub cursor_rest : List Found → List ℕ → RowsCursor → List ℕ
cursor_rest records end (Record index content) = records_rest records end index content
cursor_rest records end End = []

-- the cursor after a part of a record, by the next content, or 0 after the last
abbrev pub next_cursor : ℕ → ℕ → RowsCursor
next_cursor index next = if next == 0 then Record (index + 1) 0 else Record index next

-- the content is one of the record's, or the first
abbrev pub HasContent : ℕ → Found → Type 0
HasContent zero found = Unit {0}
HasContent (suc n) (key, None) = ⊥
HasContent (suc n) (key, Some cell) = suc n < length (keys cell.1)

-- the cursor is that of a content of its record, if there is such a record
abbrev pub IsCursorOf : List Found → RowsCursor → Type 0
IsCursorOf records (Record index content) = IfSome (slice_get records index) (HasContent content)
IsCursorOf records End = Unit {0}

-- the records that are shown
abbrev pub found_in : ShownRecords → List Found
found_in (shown.One key cell) = (key, cell) ∷ []
found_in (shown.Keys names cells) = zip names.items cells.items
found_in (shown.Rows rows) = map (λ row. (row.0, Some row.1)) rows.items

-- what comes after them
abbrev pub end_of : ShownRecords → List ℕ
end_of (shown.One key cell) = codes "}\n"
end_of (shown.Keys names cells) = codes "]}\n"
end_of (shown.Rows rows) = codes "]}\n"

-- the text of a record up to the next content, or to its end
abbrev pub after_part : ℕ → Found → List ℕ
after_part zero found = []
after_part (suc n) found = record_rest (suc n) found

-- the part of a record that begins with a content was added
pub record MakesRecord (found : Found) (content : ℕ) (old new : Vec ℕ Global) (next : ℕ) : Type 0 where
  pub part : List ℕ
  pub appended : AppendsText old new part
  pub split : record_rest content found ≡ part ++ after_part next found
  pub short : length part ≤ MAX_PART_BYTES
  pub some : 0 < length part
  pub next_is : HasContent next found

-- What the records that a reply shows weigh.

-- what the record of a key weighs, if there is one
abbrev pub found_weight : Found → ℕ
found_weight (key, None) = 0
found_weight (key, Some cell) = record_weight (key, cell)

-- what records weigh together, as far as that has 64 bits
abbrev pub shown_weight : List Found → ℕ
shown_weight records = min (sum_by found_weight records) (2 ^ 64 - 1)
