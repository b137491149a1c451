-- How proofs store live tablets, lists of operations and what readers know, and that what a draft lacks is a fact.
use Rattle.std.specs.Prelude.{◌≡◌, ◌⊎◌, List, refl, ℕ, Option}
use Rattle.std.specs.Coded.{Coded, code_by, coded×, coded⊎, coded_list, coded_ℕ, coded_option}
use Rattle.std.proofs.Props.{props}
use Rattle.std.specs.FinMap as map
use mathlib.Core.Logic.{inl, inr}
use base.Stored.{coded_unit, Coded-set}
use mathlib.Core.HLevel.{⊥_prop}
use Rattle.logbook.specs.Pages.{Book, book_coded}
use Rattle.pn_join.specs.Marks.{Positions}
use Rattle.pn_record.specs.Cells.{Entries}
use Rattle.pn_record.specs.Showing.{shown_code}
use Rattle.pn_record.specs.Sets.{CellValue}
use Rattle.pn_tablet.specs.Copies.{TabletCopyValue}
use Rattle.pn_tablet.specs.Proofs.{entries_code, positions_code, copy_code, tablet_code, ends_code}
use Rattle.pn_tablet.specs.declared.state.TabletOp.{TabletOp}
use Rattle.pn_tablet.specs.declared.state.TabletOp.TheVariants.{Join, Lose, Adopt}
use Rattle.pn_tablet.specs.Steps.{HasPositions, tablet_after}
use Rattle.pn_tablet.specs.Tablets.{TabletStateValue}
use Rattle.pn_tablet.specs.Layouts.{Bounds, Ends}
use Rattle.pn_apply.specs.Applying.{IsJoinIn}
use Rattle.pn_region.specs.Proofs.{entry_code}
use Rattle.pn_region.specs.declared.notices.Entry.{Entry}
use Rattle.pn_live.specs.Attempts.{Lacks}
use Rattle.pn_live.specs.Lookups.{GetWalkValue}
use Rattle.pn_live.specs.LiveRegions.{LiveRegionValue}
use Rattle.pn_live.specs.PublishedTablets.{PublishedTabletValue, TabletNoteValue}
use Rattle.pn_live.specs.Readers.{LiveReaderValue, TabletReaderValue}

-- How proofs store lists of operations.

-- what an operation is stored as
abbrev pub Three : Type 0
Three = (Entries × Positions) ⊎ (Unit {0} ⊎ TabletCopyValue)

-- an operation as it is stored
abbrev pub three_of : TabletOp → Three
three_of (Join cells marks) = inl (cells, marks)
three_of Lose = inr (inl tt)
three_of (Adopt copy) = inr (inr copy)

-- the operation that is stored
abbrev pub op_of : Three → TabletOp
op_of (inl joined) = Join joined.0 joined.1
op_of (inr (inl lost)) = Lose
op_of (inr (inr copy)) = Adopt copy

-- it is the same again
abbrev pub same_op : (op : TabletOp) → op_of (three_of op) ≡ op
same_op (Join cells marks) = refl
same_op Lose = refl
same_op (Adopt copy) = refl

-- lists of operations as they are stored
abbrev pub list_code : Coded (List TabletOp)
list_code = coded_list (code_by Three (coded⊎ (coded× entries_code positions_code) (coded⊎ coded_unit copy_code)) three_of op_of same_op)

-- What a draft lacks is a fact: there is one proof of it at most.

state-set : (a b : TabletStateValue) → IsProp (a ≡ b)
state-set = Coded-set tablet_code

join-prop : (t : TabletStateValue) (op : TabletOp) → IsProp (IsJoinIn t op)
join-prop t (Join cells marks) = Prim.hlevel props
join-prop t Lose = ⊥_prop
join-prop t (Adopt copy) = ⊥_prop

positions-prop : (op : TabletOp) → IsProp (HasPositions op)
positions-prop (Join cells marks) = Prim.hlevel props
positions-prop Lose = Prim.hlevel props
positions-prop (Adopt copy) = Prim.hlevel props

pub lacks-prop : (draft : TabletStateValue) (op : TabletOp) (shown : TabletStateValue) → IsProp (Lacks draft op shown)
lacks-prop draft op shown a b i = record {
  join = join-prop draft op a.join b.join i;
  positions = positions-prop op a.positions b.positions i;
  makes = state-set (tablet_after draft op) shown a.makes b.makes i;
}

pub ruleset draft_props = (props, lacks-prop)

-- How proofs store live tablets, and what readers know of them.

-- what is published of a tablet, as pairs
abbrev pub published_tablet_code : Coded PublishedTabletValue
published_tablet_code =
    code_by ((Book × Ends) × List TabletOp) (coded× (coded× book_coded ends_code) list_code)
    (λ p. ((p.book, p.range), p.list))
    (λ t. record { book = t.0.0; range = t.0.1; list = t.1 })
    (λ _. refl)

-- notes as pairs
abbrev pub note_code : Coded TabletNoteValue
note_code = code_by (Book × List TabletOp) (coded× book_coded list_code) (λ n. (n.book, n.list)) (λ t. record { book = t.0; list = t.1 }) (λ _. refl)

-- tablet readers as pairs
abbrev pub tablet_reader_code : Coded TabletReaderValue
tablet_reader_code =
    code_by ((Book × Ends) × (List TabletOp × List TabletOp)) (coded× (coded× book_coded ends_code) (coded× list_code list_code))
    (λ w. ((w.book, w.range), (w.seen, w.learnt)))
    (λ t. record { book = t.0.0; range = t.0.1; seen = t.1.0; learnt = t.1.1 })
    (λ _. refl)

-- readers as pairs
abbrev pub reader_code : Coded LiveReaderValue
reader_code =
    code_by (Bounds × List TabletReaderValue) (coded× (coded_list (coded_list coded_ℕ)) (coded_list tablet_reader_code))
    (λ r. (r.layout, r.tablet_readers))
    (λ t. record { layout = t.0; tablet_readers = t.1 })
    (λ _. refl)

-- cells as pairs
abbrev pub cell_code : Coded CellValue
cell_code = coded× (coded× coded_ℕ coded_ℕ) (map.code shown_code coded_unit)

-- gets as pairs
abbrev pub get_walk_code : Coded GetWalkValue
get_walk_code =
    code_by (List (List ℕ) × (Option (List (Option CellValue)) × ℕ)) (coded× (coded_list (coded_list coded_ℕ)) (coded× (coded_option (coded_list (coded_option cell_code))) coded_ℕ))
    (λ w. (w.keys, (w.cells, w.read)))
    (λ t. record { keys = t.0; cells = t.1.0; read = t.1.1 })
    (λ _. refl)

-- live regions as pairs
abbrev pub live_code : Coded LiveRegionValue
live_code =
    code_by ((Bounds × List PublishedTabletValue) × (Positions × (List Entry × List Book))) (coded× (coded× (coded_list (coded_list coded_ℕ)) (coded_list published_tablet_code)) (coded× positions_code (coded× (coded_list entry_code) (coded_list book_coded))))
    (λ l. ((l.layout, l.tablets), (l.marks, (l.log, l.order))))
    (λ t. record { layout = t.0.0; tablets = t.0.1; marks = t.1.0; log = t.1.1.0; order = t.1.1.1 })
    (λ _. refl)
