-- Copies of tablets, when a tablet gives one, and copies of which a part was read.
use Rattle.std.specs.Prelude.{IsTrue, Bool, true, false, Option, None, Some, Result, Ok, Err, ◌≡◌, [], ◌∷◌}
use Rattle.std.specs.Option.{option_or}
use Rattle.pn_join.specs.Marks.{Positions, are_positions}
use Rattle.pn_record.specs.Cells.{Entries, table_of, adds, spell}
use Rattle.pn_record.specs.declared.records.Image.{Image}
use Rattle.pn_tablet.specs.Layouts.{Ends}
use Rattle.pn_tablet.specs.Tablets.{lie_in, TabletStateValue, first_shortfall}
use Rattle.pn_tablet.specs.declared.state.Status.{Status}
use Rattle.pn_tablet.specs.declared.state.Status.TheVariants.{Serving, Recovering}
use Rattle.pn_tablet.specs.declared.fault.Shortfall.{Shortfall}
use Rattle.pn_tablet.specs.declared.fault.CopyFault as fault

-- Copies of tablets.

-- a range, the last positions taken from streams, and the cells of its keys
pub record TabletCopyValue : Type 0 where
  pub range : Ends
  pub marks : Positions
  pub cells : Entries

-- what holds of every copy's fields: the keys lie in the range, and the positions are those of messages
pub record IsCopy (range : Ends) (marks : Positions) (cells : Entries) : Type 0 where
  pub inside : IsTrue (lie_in range cells)
  pub positions : IsTrue (are_positions marks)

-- When a tablet gives a copy.

-- the copy, unless its marks fall short
abbrev pub unless_behind : Option Shortfall → TabletCopyValue → Result TabletCopyValue fault.CopyFault
unless_behind None copy = Ok copy
unless_behind (Some short) copy = Err (fault.TheVariants.Behind short.stream short.has short.wanted)

-- what a tablet's cover lacks of the need, or else of the tablet's own reach
abbrev pub copy_shortfall : TabletStateValue → Positions → Option Shortfall
copy_shortfall tablet need = option_or (first_shortfall tablet.cover need) (first_shortfall tablet.cover tablet.reach)

-- the copy of a tablet that serves and whose cover lacks nothing: its range, its cover and its cells
abbrev pub copy_from : Status → TabletStateValue → Positions → Result TabletCopyValue fault.CopyFault
copy_from (Recovering _) tablet need = Err fault.TheVariants.Recovering
copy_from Serving tablet need = unless_behind (copy_shortfall tablet need) (record { range = tablet.range; marks = tablet.cover; cells = tablet.cells })

-- the copy of a tablet that reaches a need, or why there is none
abbrev pub copy_of : TabletStateValue → Positions → Result TabletCopyValue fault.CopyFault
copy_of tablet need = copy_from tablet.status tablet need

-- the fault says that memory ran out
abbrev pub is_memory : fault.CopyFault → Bool
is_memory fault.TheVariants.Memory = true
is_memory _ = false

-- Copies of which a part was read.

-- the range, the marks and the cells so far, and the last image
pub record DraftValue : Type 0 where
  pub range : Ends
  pub marks : Positions
  pub cells : Entries
  pub last : Option Image

-- a copy of which only the head was read
abbrev pub empty_draft : Ends → DraftValue
empty_draft range = record { range = range; marks = []; cells = []; last = None }

-- the copy, once all was read
abbrev pub copy_of_draft : DraftValue → TabletCopyValue
copy_of_draft draft = record { range = draft.range; marks = draft.marks; cells = draft.cells }

-- the cells with the last image, if there is one
abbrev pub with_last : Entries → Option Image → Entries
with_last cells None = cells
with_last cells (Some image) = adds cells (image ∷ [])

-- what holds of every draft's fields; the cells lack the last image
pub record IsDraft (range : Ends) (marks : Positions) (cells : Entries) (last : Option Image) : Type 0 where
  pub inside : IsTrue (lie_in range (with_last cells last))
  pub spelled : cells ≡ table_of (spell cells)
  pub positions : IsTrue (are_positions marks)
