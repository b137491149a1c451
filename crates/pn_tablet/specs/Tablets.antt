-- The state of a tablet, and what it needs, holds and weighs.
use Rattle.std.specs.Prelude.{[], Option, option_map, slice_get, Bool, ◌&&◌, ◌≡◌, IsTrue, None, Some, ℕ, false, not, count_by, ◌+◌, ◌-◌, ◌*◌, ◌^◌, min, if◌then◌else◌, nat_le, List, length}
use Rattle.std.specs.Option.{option_and_then, option_eq}
use Rattle.std.specs.Str.{bytes_eq}
use Rattle.std.specs.List.{list_all, sum_by}
use Rattle.std.specs.FinMap.{keys}
use Rattle.pn_join.specs.Marks.{Positions, position_of, shortfall, Reaches, are_positions}
use Rattle.pn_record.specs.Cells.{spell, Entries, table_of}
use Rattle.pn_record.specs.Sets.{CellValue, is_deletion}
use Rattle.pn_record.specs.Limits.{field_size, ContentValue, Field}
use Rattle.pn_tablet.specs.declared.state.Status.{Status}
use Rattle.pn_tablet.specs.declared.state.Status.TheVariants.{Serving, Recovering}
use Rattle.pn_tablet.specs.declared.fault.Shortfall.{Shortfall}
use Rattle.pn_tablet.specs.Layouts.{Ends, in_range}
use Rattle.pn_tablet.specs.declared.counted_cells.RecordCounts.{RecordCounts}
use Rattle.pn_tablet.specs.declared.weight.TheConstants.{CONTENT_WEIGHT, FIELD_WEIGHT, MAX_CONTENT_WEIGHT, MAX_WEIGHED, RECORD_WEIGHT}

-- What marks lack of a need.

-- the first stream, in byte order, at which marks fall short of the need, with both positions
abbrev pub first_shortfall : Positions → Positions → Option Shortfall
first_shortfall marks need = option_map (λ wanted. record { stream = wanted.0; has = position_of marks wanted.0; wanted = wanted.1 }) (option_and_then (slice_get need) (shortfall marks need))

-- the need of a tablet; none where it serves
abbrev pub needed : Status → Positions
needed Serving = []
needed (Recovering need) = need

-- the first stream at which marks fall short of a tablet's need
abbrev pub need_shortfall : Status → Positions → Option Shortfall
need_shortfall status marks = first_shortfall marks (needed status)

-- The state of a tablet.

-- a range, the cells of its keys, the positions up to which all of them took streams, those up to which any did, and whether it serves
pub record TabletStateValue : Type 0 where
  pub range : Ends
  pub cells : Entries
  pub cover : Positions
  pub reach : Positions
  pub status : Status

-- a tablet that serves and is empty
abbrev pub empty_tablet : Ends → TabletStateValue
empty_tablet range = record { range = range; cells = []; cover = []; reach = []; status = Serving }

-- all keys lie in the range
abbrev pub lie_in : Ends → Entries → Bool
lie_in range cells = list_all (λ entry. in_range range entry.0) cells

-- both ranges have the same ends
abbrev pub same_range : Ends → Ends → Bool
same_range a b = option_eq bytes_eq a.0 b.0 && option_eq bytes_eq a.1 b.1

-- the next loss has its need: a copy of the reach, or the need of the last loss
abbrev pub HasNeed : Option Positions → Positions → Status → Type 0
HasNeed (Some spare) reach status = spare ≡ reach
HasNeed None reach status = status ≡ Recovering reach

-- a cover and a reach
pub record CoverageValue : Type 0 where
  pub cover : Positions
  pub reach : Positions

-- what holds of every tablet's cover and reach: the positions are those of messages, and the reach is nowhere less
pub record IsCoverage (cover reach : Positions) : Type 0 where
  pub positions : IsTrue (are_positions cover)
  pub reach_positions : IsTrue (are_positions reach)
  pub reached : Reaches reach cover

-- what holds of every tablet's other fields
pub record IsTablet (range : Ends) (cells : Entries) (reach : Positions) (status : Status) (spare : Option Positions) : Type 0 where
  pub inside : IsTrue (lie_in range cells)
  pub spelled : cells ≡ table_of (spell cells)
  pub needed_positions : IsTrue (are_positions (needed status))
  pub has_need : HasNeed spare reach status

-- How many records a tablet has, and how many deleted ones it keeps.

-- all contents of the cell are deletions
abbrev pub is_deleted : CellValue → Bool
is_deleted cell = list_all is_deletion (keys cell.1)

-- how many cells are deleted
abbrev pub deleted_in : Entries → ℕ
deleted_in cells = count_by (λ entry. is_deleted entry.1) cells

-- how many records are there, and how many are deleted
abbrev pub counts_of : Entries → RecordCounts
counts_of cells = record { records = count_by (λ entry. not (is_deleted entry.1)) cells; deleted = deleted_in cells }

-- there was a cell, and it was deleted
abbrev pub was_deleted : Option CellValue → Bool
was_deleted None = false
was_deleted (Some cell) = is_deleted cell

-- What records weigh: about the bytes of memory that they take.

-- a field weighs what its name and its value count, and more
abbrev pub field_weight : Field → ℕ
field_weight field = FIELD_WEIGHT + field_size field

-- a body weighs what its fields do; a deletion has none
abbrev pub body_weight : Option (List Field) → ℕ
body_weight None = 0
body_weight (Some fields) = sum_by field_weight fields

-- a content weighs what its body does, and more
abbrev pub content_weight : ContentValue → ℕ
content_weight content = CONTENT_WEIGHT + body_weight content.0

-- contents weigh what each does; where they are many, each the most that one may
abbrev pub contents_weight : List ContentValue → ℕ
contents_weight contents = if nat_le (length contents) MAX_WEIGHED then sum_by content_weight contents else length contents * MAX_CONTENT_WEIGHT

-- a record weighs what its key and its contents do, and more
abbrev pub record_weight : List ℕ × CellValue → ℕ
record_weight entry = RECORD_WEIGHT + length entry.0 + contents_weight (keys entry.1.1)

-- what records weigh together, as far as that has 64 bits
abbrev pub entries_weight : Entries → ℕ
entries_weight cells = min (sum_by record_weight cells) (2 ^ 64 - 1)
