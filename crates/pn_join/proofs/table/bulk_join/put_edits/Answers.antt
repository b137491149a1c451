-- The nodes that the edits come into are opened, and get the contents.
use Rattle.std.proofs.Common.{◌≡◌, ◌+◌, ◌^◌, ◌<◌, length, ◌∙◌, arith}
use Rattle.pn_join.specs.NodeLeaves.{entries_in}
use Rattle.pn_join.specs.Edits.{changes_in}
use Rattle.pn_join.specs.TableChanges.{puts}
use Rattle.pn_join.proofs.Changing.{puts_table}
use Rattle.pn_join.proofs.IndexPuts.{all_put, edits_within_root}
use Rattle.pn_join.proofs.LeafOpenings.{turn_fits}
use Rattle.pn_join.proofs.table.bulk_join.put_edits.Goals as goal

pub open_row-requires-clause-edits : goal.open_row-requires-clause-edits
open_row-requires-clause-edits g c =
    rw c.replace.ensures.value (edits_within_root g.K.Ord.cmp g.met.K.Ord.total (entries_in c.args.root.now) c.args.edits.items c.requires.indexed c.requires.rising)

pub finish_row-requires-clause-table : goal.finish_row-requires-clause-table
finish_row-requires-clause-table g c =
    let cmp = g.K.Ord.cmp in
    let o = g.met.K.Ord.total in
    let es = entries_in c.args.root.now in
    let opened = rw c.replace.ensures.value at c.in-Open.ensures in
    let is : c.in-Open.open.1 ≡ puts cmp es (changes_in c.args.edits.items) =
    opened.has ∙ all_put cmp o es c.args.edits.items c.open_row.new.edits.items opened.mine c.requires.indexed c.requires.rising opened.parted opened.stops in
    rw is (puts_table cmp o g.C.Join.meaning g.C.Join.joined g.C.Join.valid es (changes_in c.args.edits.items) c.recall_row.ensures.leaf_list.table c.requires.valid)

pub finish_row-requires-clause-fits : goal.finish_row-requires-clause-fits
finish_row-requires-clause-fits g c =
    let es = entries_in c.args.root.now in
    let opened = rw c.replace.ensures.value at c.in-Open.ensures in
    let fits : length es + length c.args.edits.items < 2 ^ 64 = omega (arith, c.in-Some.ensures.0, c.all_sizes.ensures.entries, c.len.ensures, c.args.edits.ok.0) in
    rw opened.has (turn_fits es c.args.edits.items c.open_row.new.edits.items opened.mine opened.parted fits)

pub returns-in-Open-clause-done : goal.returns-in-Open-clause-done
returns-in-Open-clause-done g c = λ yes.
    let cmp = g.K.Ord.cmp in
    let opened = rw c.replace.ensures.value at c.in-Open.ensures in
    c.finish_row.ensures.put ∙ opened.has
    ∙ all_put cmp g.met.K.Ord.total (entries_in c.args.root.now) c.args.edits.items c.open_row.new.edits.items opened.mine c.requires.indexed c.requires.rising opened.parted opened.stops
