-- The orders of versions and of contents, sets of contents, what a cell is, and how two cells join.
use Rattle.std.specs.Prelude.{ℕ, List, Option, ◌<◌, ◌++◌, map, length, IsTrue, if◌then◌else◌, ◌==◌, Bool, is_none}
use Rattle.std.specs.declared.cmp.Ordering.{Ordering}
use Rattle.std.specs.declared.cmp.Ordering.TheVariants.{Less, Greater}
use Rattle.std.specs.Ordering.{nat_cmp, int_cmp, ordering_then}
use Rattle.std.specs.Option.{option_cmp}
use Rattle.std.specs.Cmp.Lexicographic.{slice_cmp}
use Rattle.std.specs.FinMap.{FinMap, from_entries, entries, keys, is_sorted}
use Rattle.std.specs.FinMap.Entries.{by_order}
use Rattle.std.specs.List.{list_all}
use Rattle.pn_record.specs.Limits.{FieldValue, number_value, text_value, Field, ContentValue}
use Rattle.pn_record.specs.declared.cell.CellState.{CellState}
use Rattle.pn_record.specs.declared.cell.CellState.TheVariants.{One, Deleted, Conflict}

-- The orders of versions and of contents.

-- by generation, and then by number
abbrev pub version_cmp : ℕ × ℕ → ℕ × ℕ → Ordering
version_cmp a b = ordering_then (nat_cmp a.0 b.0) (nat_cmp a.1 b.1)

-- by their bytes
abbrev pub bytes_cmp : List ℕ → List ℕ → Ordering
bytes_cmp = slice_cmp nat_cmp

-- numbers before all texts; numbers by value, and texts by their bytes
abbrev pub value_cmp : FieldValue → FieldValue → Ordering
value_cmp (number_value a) (number_value b) = int_cmp a b
value_cmp (number_value a) (text_value b) = Less
value_cmp (text_value a) (number_value b) = Greater
value_cmp (text_value a) (text_value b) = bytes_cmp a b

-- by name, and then by value
abbrev pub field_cmp : Field → Field → Ordering
field_cmp a b = ordering_then (bytes_cmp a.0 b.0) (value_cmp a.1 b.1)

-- a deletion before fields, and fields as lists of name and value
abbrev pub body_cmp : Option (List Field) → Option (List Field) → Ordering
body_cmp = option_cmp (slice_cmp field_cmp)

-- by body, and then by master
abbrev pub content_cmp : ContentValue → ContentValue → Ordering
content_cmp a b = ordering_then (body_cmp a.0 b.0) (bytes_cmp a.1 b.1)

-- Sets of contents, what a cell is, and how two cells join.

-- a version
abbrev pub Stamp : Type 0
Stamp = ℕ × ℕ

-- a set of contents, in content order
abbrev pub Contents : Type 0
Contents = FinMap content_cmp (Unit {0})

-- what a cell is: a version, and the contents that have it
abbrev pub CellValue : Type 0
CellValue = Stamp × Contents

-- contents as the entries of a set
abbrev pub as_entries : List ContentValue → List (ContentValue × Unit {0})
as_entries list = map (λ shown. (shown, tt)) list

-- the set of the contents in a list
abbrev pub set_of : List ContentValue → Contents
set_of list = from_entries (as_entries list)

-- the contents of both
abbrev pub union : Contents → Contents → Contents
union a b = from_entries (entries a ++ entries b)

-- the join of two cells: the one of the greater version, or at equal versions the contents of both
abbrev pub cell_joined : CellValue → CellValue → CellValue
cell_joined a b = by_order (version_cmp a.0 b.0) b (a.0, union a.1 b.1) a

-- a cell has at least one content
abbrev pub HasContents : CellValue → Type 0
HasContents cell = 0 < length (keys cell.1)

-- a non-empty list of contents in content order, each once
pub record IsContents (list : List ContentValue) : Type 0 where
  pub rising : IsTrue (is_sorted content_cmp (as_entries list))
  pub some : 0 < length list

-- What the contents of a cell say together.

-- the content is a deletion
abbrev pub is_deletion : ContentValue → Bool
is_deletion shown = is_none shown.0

-- deleted if all contents are deletions, one if there is one content, otherwise a conflict
abbrev pub state_of_contents : List ContentValue → CellState
state_of_contents contents = if list_all is_deletion contents then Deleted else (if length contents == 1 then One else Conflict)

abbrev pub state_of : CellValue → CellState
state_of cell = state_of_contents (keys cell.1)
