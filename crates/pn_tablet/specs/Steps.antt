-- The state of a tablet after an operation, the changes of its cells, and the words of the laws of tablets.
use Rattle.std.specs.Prelude.{◌≡◌, Bool, true, false, Result, Ok, Err, IsOk, IsTrue, if◌then◌else◌, List, [], fold, Option, None, Some, ℕ, option_map, ◌∷◌, Contains}
use Rattle.std.specs.List.{filter_map}
use Rattle.std.specs.FinMap.{find, is_sorted}
use Rattle.pn_join.specs.Marks.{are_positions, Positions, raised_marks, Reaches, name_cmp}
use Rattle.pn_join.specs.declared.table.change.TableChange.{TableChange}
use Rattle.pn_record.specs.Cells.{spell, Entries, adds, table_of, same_at}
use Rattle.pn_record.specs.Sets.{bytes_cmp, CellValue, Stamp, cell_joined}
use Rattle.pn_record.specs.declared.records.Image.{Image}
use Rattle.pn_tablet.specs.declared.state.TabletOp.{TabletOp}
use Rattle.pn_tablet.specs.declared.state.TabletOp.TheVariants.{Join, Lose, Adopt}
use Rattle.pn_tablet.specs.Layouts.{Ends}
use Rattle.pn_tablet.specs.Copies.{TabletCopyValue}
use Rattle.pn_tablet.specs.Tablets.{need_shortfall, TabletStateValue, empty_tablet, lie_in, same_range}
use Rattle.pn_tablet.specs.declared.state.Status.TheVariants.{Serving, Recovering}
use Rattle.pn_tablet.specs.declared.fault.Shortfall.{Shortfall}
use Rattle.pn_tablet.specs.declared.fault.OpFault.{OpFault}
use Rattle.pn_tablet.specs.declared.fault.OpFault.TheVariants.{WrongRange, TooOld, Memory}
use Rattle.pn_tablet.specs.declared.change.Change.{Change}

-- Answers of calls for which memory may run out.

-- the fault is the right one; out of memory comes only where there is no other fault
abbrev pub IsRight : {A E : Type 0} → Bool → E → Result A E → Type 0
IsRight true fault right = IsOk right
IsRight false fault right = right ≡ Err fault

-- a refusal, where `is_memory` tests for out of memory
abbrev pub Refuses : {A E : Type 0} → (E → Bool) → E → Result A E → Type 0
Refuses is_memory fault right = IsRight (is_memory fault) fault right

-- the answer is the right one, or out of memory where there is no other fault
abbrev pub Answers : {A E : Type 0} → (E → Bool) → Result A E → Result A E → Type 0
Answers is_memory (Ok value) right = right ≡ Ok value
Answers is_memory (Err fault) right = Refuses is_memory fault right

-- Operations that may be applied.

-- the positions of a join's marks are those of messages, as those of every copy are
abbrev pub HasPositions : TabletOp → Type 0
HasPositions (Join cells marks) = IsTrue (are_positions marks)
HasPositions _ = Unit {0}

-- The state of a tablet after an operation.

-- a join adds the images that the cells spell, and its marks raise the cover and the reach
abbrev pub with_join : TabletStateValue → Entries → Positions → TabletStateValue
with_join tablet cells marks = record tablet { cells = adds tablet.cells (spell cells); cover = raised_marks tablet.cover marks; reach = raised_marks tablet.reach marks }

-- a loss removes the cells and keeps the cover and the reach; the tablet needs a copy that reaches the reach
abbrev pub recovering_tablet : TabletStateValue → TabletStateValue
recovering_tablet tablet = record tablet { cells = []; status = Recovering tablet.reach }

-- an adoption adds a copy, and the tablet serves, unless the copy falls short of the tablet's need
abbrev pub with_copy : TabletStateValue → TabletCopyValue → Option Shortfall → Result TabletStateValue OpFault
with_copy tablet copy None = Ok (record (with_join tablet copy.cells copy.marks) { status = Serving })
with_copy tablet copy (Some short) = Err (TooOld short.stream short.has short.wanted)

-- the state after an operation, or why it is refused
abbrev pub step : TabletStateValue → TabletOp → Result TabletStateValue OpFault
step tablet (Join cells marks) = if lie_in tablet.range cells then Ok (with_join tablet cells marks) else Err WrongRange
step tablet Lose = Ok (recovering_tablet tablet)
step tablet (Adopt copy) = if same_range tablet.range copy.range then with_copy tablet copy (need_shortfall tablet.status copy.marks) else Err WrongRange

-- a refusal changes nothing
abbrev pub after_step : TabletStateValue → Result TabletStateValue OpFault → TabletStateValue
after_step tablet (Ok after) = after
after_step tablet (Err refusal) = tablet

-- the tablet after an operation, which changes nothing where it is refused
abbrev pub tablet_after : TabletStateValue → TabletOp → TabletStateValue
tablet_after tablet op = after_step tablet (step tablet op)

-- the state after the operations of a list in turn, from the empty tablet of the range
abbrev pub state_of : Ends → List TabletOp → TabletStateValue
state_of range ops = fold tablet_after (empty_tablet range) ops

-- the fault says that memory ran out
abbrev pub is_memory : OpFault → Bool
is_memory Memory = true
is_memory _ = false

-- The changes from some cells to others.

-- the version of a cell, if there is one
abbrev pub version_at : Option CellValue → Option Stamp
version_at cell = option_map (λ c. c.0) cell

-- the change of a key from the cell before, if there was one, to the cell of the entry
abbrev pub change_of : Option CellValue → List ℕ × CellValue → Option Change
change_of before entry = if same_at before (Some entry.1) then None else Some (record { key = entry.0; before = version_at before; after = entry.1.0 })

-- the changes of the keys whose cells differ, in key order
abbrev pub changes : Entries → Entries → List Change
changes before after = filter_map (λ entry. change_of (find bytes_cmp entry.0 before) entry) after

-- the answer to an operation: the changes of a join, and of any other none
abbrev pub answer : TabletOp → TabletStateValue → TabletStateValue → List Change
answer (Join cells marks) before after = changes before.cells after.cells
answer _ before after = []

-- the change that a join reports
abbrev pub reported_change : TableChange (List ℕ) CellValue → Change
reported_change table_changes = record { key = table_changes.key; before = version_at table_changes.before; after = table_changes.after.0 }

-- the change of a key when a cell is joined to the one that it had
abbrev pub change_by : Option CellValue → List ℕ × CellValue → Option Change
change_by None entry = change_of None entry
change_by (Some cell) entry = change_of (Some cell) (entry.0, cell_joined cell entry.1)

-- The words of the laws of tablets.

-- the cells are the table of the images that spell them, as every tablet's are
abbrev pub IsSpelled : Entries → Type 0
IsSpelled cells = cells ≡ table_of (spell cells)

-- the names rise, as in all marks
abbrev pub Rise : Positions → Type 0
Rise marks = IsTrue (is_sorted name_cmp marks)

-- the operation is a join
abbrev pub IsJoin : TabletOp → Type 0
IsJoin (Join cells marks) = Unit {0}
IsJoin _ = ⊥

-- all are joins
abbrev pub AreJoins : List TabletOp → Type 0
AreJoins [] = Unit {0}
AreJoins (op ∷ ops) = IsJoin op × AreJoins ops

-- the images up to marks: marks that reach others have all images that those have
abbrev pub Grows : (Positions → List Image) → Type 0
Grows upto = (marks others : Positions) → Rise marks → Rise others → Reaches marks others → (image : Image) → Contains (upto others) image → Contains (upto marks) image
