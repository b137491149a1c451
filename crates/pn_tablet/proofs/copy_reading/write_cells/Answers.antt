-- One cell's lines more.
use Rattle.std.proofs.Common.{rules, ◌≡◌, ℕ, ◌+◌, ◌∷◌, ◌++◌, List, map, length, sym, ap, ◌∙◌, subst, arith}
use Rattle.std.specs.FinMap.{keys}
use Rattle.std.specs.List.{AllByRecursion}
use Rattle.pn_record.specs.Cells.{spell, Entries}
use Rattle.pn_record.specs.Sets.{CellValue}
use Rattle.pn_tablet.specs.CopyWriting.{lines_text, IsWrittenLine}
use Rattle.pn_tablet.specs.declared.copy_line.CopyLine.TheVariants.{Record}
use Rattle.pn_tablet.proofs.CopyWritten.{cell_then, cell_all, cell_count, cell_room}
use Rattle.pn_tablet.proofs.copy_reading.write_cells.Goals as goal

pub loop-key-preserved : goal.loop-key-preserved
loop-key-preserved c =
    let e : List ℕ × CellValue = (c.in-Some.key.now, c.in-Some.cell.now) in
    let es : Entries = c.next.new.self in
    let left : c.loop-key.key-iterator ≡ e ∷ es = search rules in
    let old = c.loop-key.invariant in
    let now = c.loop-key.text.items in
    let all = c.args.text.items ++ lines_text (map Record (spell c.args.cells.now)) in
    let was : now ++ lines_text (map Record (spell (e ∷ es))) ≡ all = ap (λ (l : Entries). now ++ lines_text (map Record (spell l))) (sym left) ∙ old.text in
    let contents : length c.contents.result.now ≡ length (keys c.in-Some.cell.now.1) = ap length c.contents.ensures.contents in
    let counted : c.loop-key.count + length (spell (e ∷ es)) ≡ length (spell c.args.cells.now) = ap (λ (l : Entries). c.loop-key.count + length (spell l)) (sym left) ∙ old.count in
    record {
      text = cell_then now c.in_ok-text.text.items all e es was c.in_ok-text.ensures;
      lines = λ rest. old.lines (subst (λ (l : Entries). AllByRecursion IsWrittenLine (map Record (spell l))) (sym left) (cell_all e es c.in_ok-text.ensures.1 rest));
      count = omega (arith, counted, cell_count e es, contents);
      longer = omega (arith, old.longer, cell_room now c.in_ok-text.text.items e c.in_ok-text.ensures, contents);
    }
