-- The join of tables holds the lists of both.
use Rattle.std.proofs.Common.{ℕ, ◌≢◌, List, [], ◌∷◌, Option, None, Some, option_map, sym, ap}
use Rattle.std.proofs.lemmas.Result.{on_ok_weaker, IfOk-weaker}
use Rattle.std.specs.List.{AllByRecursion, AllZip}
use Rattle.pn_join.specs.TableChanges.{Changes, those_there, AreChanges}
use Rattle.pn_join.specs.declared.table.change.TableChange.{TableChange}
use Rattle.pn_record.specs.Cells.{Entries}
use Rattle.pn_record.specs.Sets.{bytes_cmp, CellValue, cell_joined, HasContents}
use Rattle.pn_record.proofs.CellMaps.{find-joined, Holds-joined, Holds-spell}
use Rattle.pn_record.proofs.records.join_with_changes.Goals as goal

abbrev Differ : List (TableChange (List ℕ) CellValue) → Type 0
Differ changes = AllByRecursion (λ change. change.before ≢ Some change.after) changes

each_differs : (old more : Entries) (made : List (Option (TableChange (List ℕ) CellValue))) → AllZip (Changes bytes_cmp (λ cell. cell) cell_joined HasContents old) more made → Differ (those_there made)
each_differs old [] [] all = tt
each_differs old [] (m ∷ ms) all = absurd all
each_differs old (e ∷ es) [] all = absurd all
each_differs old (e ∷ es) (None ∷ ms) all = each_differs old es ms all.1
each_differs old (e ∷ es) (Some change ∷ ms) all = (λ is. all.0.differs (sym (ap (option_map (λ cell. cell)) is)), each_differs old es ms all.1)

pub returns-clause-differ : goal.returns-clause-differ
returns-clause-differ c =
    IfOk-weaker c.join_with_changes.result
    (λ changes. AreChanges bytes_cmp (λ cell. cell) cell_joined HasContents c.args.records.now c.args.other.now changes.items)
    (λ changes. Differ changes.items)
    (λ changes are. rw are.are (each_differs c.args.records.now c.args.other.now are.made are.each))
    c.join_with_changes.ensures.changes

pub returns-clause-spelled : goal.returns-clause-spelled
returns-clause-spelled c =
    let tables = c.join_with_changes.ensures.tables in
    on_ok_weaker c.join_with_changes.result (λ is. Holds-joined c.args.records.now c.args.other.now c.join_with_changes.new.self is _ _
    (Holds-spell c.args.records.now tables.0.rising tables.0.contents)
    (Holds-spell c.args.other.now tables.1.rising tables.1.contents)) c.join_with_changes.ensures.ok

pub returns-clause-joined : goal.returns-clause-joined
returns-clause-joined c = on_ok_weaker c.join_with_changes.result (λ is. find-joined c.args.records.now c.args.other.now c.join_with_changes.new.self is) c.join_with_changes.ensures.ok

pub returns-clause-rising : goal.returns-clause-rising
returns-clause-rising c = on_ok_weaker c.join_with_changes.result (λ is. (c.join_with_changes.ensures.tables.2.rising, c.join_with_changes.ensures.tables.1.rising)) c.join_with_changes.ensures.ok
