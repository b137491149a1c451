-- Copies and counts of live tablets, and gets that are resumed: each by looks of a reader.
use Rattle.std.specs.Prelude.{Option, None, Some, IfSome, Result, Err, ◌≡◌, option_map, ◌<◌, ℕ, List, [], ◌++◌, length, map, take, Ok, OnOk, Vec}
use Rattle.std.specs.List.{AllByRecursion}
use Rattle.std.specs.declared.alloc.Global.{Global}
use Rattle.pn_join.specs.Marks.{Positions}
use Rattle.pn_record.specs.Sets.{CellValue}
use Rattle.pn_record.specs.declared.cell.Cell.{Cell}
use Rattle.pn_record.specs.declared.key.Key.{Key}
use Rattle.pn_tablet.specs.Copies.{TabletCopyValue, copy_of, is_memory}
use Rattle.pn_tablet.specs.Steps.{Answers}
use Rattle.pn_tablet.specs.Tablets.{TabletStateValue, counts_of}
use Rattle.pn_tablet.specs.declared.fault.CopyFault.{CopyFault}
use Rattle.pn_tablet.specs.declared.fault.CopyFault.TheVariants.{NoEntry}
use Rattle.pn_tablet.specs.declared.counted_cells.RecordCounts.{RecordCounts}
use Rattle.pn_tablet.specs.Layouts.{Bounds, tablet_of}
use Rattle.pn_scan.specs.Pages.{Look, first_refusal, unless}
use Rattle.pn_scan.specs.Views.{IsFoundIn, Answers as AnswersLooks, cells_of_keys}
use Rattle.pn_scan.specs.Paging.{AreMade, Follows, LookMade, looks_in}
use Rattle.pn_scan.specs.declared.view.ScanFault.{ScanFault}
use Rattle.pn_region.specs.Regions.{IsSound}
use Rattle.pn_live.specs.Readers.{LiveReaderValue, LooksLive, TabletReaderValue, Sees}

-- Copies of live tablets, each taken by one look of a reader.

-- the copy of the state found, or why there is none
abbrev pub copy_at : Positions → Option TabletStateValue → Result TabletCopyValue CopyFault
copy_at need None = Err NoEntry
copy_at need (Some state) = copy_of state need

-- one entry, and the right answer for what it found
pub record IsOneCopy (old : TabletReaderValue) (need : Positions) (new : TabletReaderValue) (answer : Result TabletCopyValue CopyFault) (found : Option TabletStateValue) : Type 0 where
  pub sees : Sees old found new
  pub sound : IfSome found IsSound
  pub answers : Answers is_memory answer (copy_at need found)

-- a reader copied a tablet by one look
pub record IsCopied (old : LiveReaderValue) (need : Positions) (new : LiveReaderValue) (answer : Result TabletCopyValue CopyFault) (look : Look) : Type 0 where
  pub looked : LooksLive old look new
  pub found : IsFoundIn old.layout look
  pub answers : Answers is_memory answer (copy_at need look.1)

-- The counts of live tablets, each found by one look of a reader.

-- the counts of the state found, if one was found
abbrev pub counts_at : Option TabletStateValue → Option RecordCounts
counts_at found = option_map (λ state. counts_of state.cells) found

-- one entry, and the counts of what it found
pub record IsOneCount (old new : TabletReaderValue) (answer : Option RecordCounts) (found : Option TabletStateValue) : Type 0 where
  pub sees : Sees old found new
  pub sound : IfSome found IsSound
  pub counts : answer ≡ counts_at found

-- a reader counted a tablet by one look
pub record IsCounted (old new : LiveReaderValue) (answer : Option RecordCounts) (look : Look) : Type 0 where
  pub looked : LooksLive old look new
  pub found : IsFoundIn old.layout look
  pub counts : answer ≡ counts_at look.1

-- Gets that are resumed, between whose looks the reader may move.

-- keys, the cells of those that were read unless memory ran out, and how many were
pub record GetWalkValue : Type 0 where
  pub keys : List (List ℕ)
  pub cells : Option (List (Option CellValue))
  pub read : ℕ

-- keys of which none was read
pub record IsNewGet (keys : List (List ℕ)) (walk : GetWalkValue) : Type 0 where
  pub keys_are : walk.keys ≡ keys
  pub none_read : walk.read ≡ 0
  pub cells_are : IfSome walk.cells (λ cells. cells ≡ [])

-- by these looks, one a key, keys were read
pub record IsOnGet (bounds : Bounds) (walk : GetWalkValue) (trace : List (LookMade LiveReaderValue)) : Type 0 where
  pub made : AreMade LooksLive trace
  pub found : AllByRecursion (IsFoundIn bounds) (looks_in trace)
  pub count : length trace ≡ walk.read
  pub order : map (λ look. look.0) (looks_in trace) ≡ map (tablet_of bounds) (take walk.read walk.keys)
  pub none_refused : first_refusal (looks_in trace) ≡ None
  pub cells_are : IfSome walk.cells (λ cells. cells ≡ cells_of_keys walk.keys (looks_in trace))

-- all keys were read by these looks, or the last was refused
pub record EndsGet (bounds : Bounds) (keys : List (List ℕ)) (answer : Result (List (Option CellValue)) ScanFault) (trace : List (LookMade LiveReaderValue)) : Type 0 where
  pub made : AreMade LooksLive trace
  pub found : AllByRecursion (IsFoundIn bounds) (looks_in trace)
  pub order : map (λ look. look.0) (looks_in trace) ≡ map (tablet_of bounds) (take (length (looks_in trace)) keys)
  pub only : (n : ℕ) → n < length (looks_in trace) → first_refusal (take n (looks_in trace)) ≡ None
  pub answers : AnswersLooks (λ cells. cells) answer (unless (first_refusal (looks_in trace)) (cells_of_keys keys (looks_in trace)))
  pub whole : OnOk answer (length (looks_in trace) ≡ length keys)

-- after more looks more keys were read, or one was refused
abbrev pub GetsOn : Bounds → LiveReaderValue → LiveReaderValue → List (List ℕ) → Result GetWalkValue ScanFault → List (LookMade LiveReaderValue) → Type 0
GetsOn bounds old new keys (Ok walk) trace = (walk.keys ≡ keys) × ((more : List (LookMade LiveReaderValue)) × Follows old more new × IsOnGet bounds walk (trace ++ more))
GetsOn bounds old new keys (Err fault) trace = (more : List (LookMade LiveReaderValue)) × Follows old more new × EndsGet bounds keys (Err fault) (trace ++ more)

-- the cells of keys that were read, as a get shows them
abbrev pub cells_shown : Result (Vec Key Global × Vec (Option Cell) Global) ScanFault → Result (List (Option CellValue)) ScanFault
cells_shown (Ok got) = Ok got.1.items
cells_shown (Err fault) = Err fault
