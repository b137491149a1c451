-- One record more is counted.
use Rattle.std.proofs.Common.{rules, ◌≡◌, ℕ, ◌-◌, ◌∷◌, List, [], drop, length, sym, ap, ◌∙◌, arith, length-drop}
use Rattle.std.proofs.lemmas.Result.{err_from_is_err_and}
use Rattle.pn_record.specs.Cells.{Entries}
use Rattle.pn_record.specs.Sets.{CellValue}
use Rattle.pn_tablet.proofs.CopyCounted.{counted_more, counted_within, one_more_record}
use Rattle.pn_tablet.proofs.copy_count.count_some.Goals as goal

pub loop-key-init : goal.loop-key-init
loop-key-init c =
    record { counted = c.requires; rest = c.into_iter-key-iterator.ensures.into_iter_gives ∙ c.iter_from-key-items.ensures.rest; left = omega arith }

pub count_record-requires : goal.count_record-requires
count_record-requires c =
    let e : List ℕ × CellValue = (c.in-Some.key.now, c.in-Some.cell.now) in
    let es : Entries = c.next.new.self in
    let left : c.loop-key.key-iterator ≡ e ∷ es = search rules in
    let more = one_more_record c.args.cells.now es c.loop-key.now.records e (sym c.loop-key.invariant.rest ∙ left) in
    omega (arith, more.0, c.recall_size.ensures)

pub returns-then-left-eq0-clause-ok : goal.returns-then-left-eq0-clause-ok
returns-then-left-eq0-clause-ok c = (c.loop-key.invariant.counted, omega (arith, c.loop-key.invariant.left, c.if-left-eq0.true, c.loop-key.invariant.counted.within))

pub returns-in_err-now-clause-err : goal.returns-in_err-now-clause-err
returns-in_err-now-clause-err c =
    let e : List ℕ × CellValue = (c.in-Some.key.now, c.in-Some.cell.now) in
    let es : Entries = c.next.new.self in
    let left : c.loop-key.key-iterator ≡ e ∷ es = search rules in
    let gave = err_from_is_err_and c.from_residual.result c.from_residual.ensures.1 in
    rw gave.1 (omega (arith, counted_within c.args.cells.now es e c.loop-key.now c.loop-key.invariant.counted (sym c.loop-key.invariant.rest ∙ left), c.in_err-now.ensures.err))

pub loop-key-preserved : goal.loop-key-preserved
loop-key-preserved c =
    let e : List ℕ × CellValue = (c.in-Some.key.now, c.in-Some.cell.now) in
    let es : Entries = c.next.new.self in
    let left : c.loop-key.key-iterator ≡ e ∷ es = search rules in
    let first = sym c.loop-key.invariant.rest ∙ left in
    let now = c.in_ok-now.now in
    let more = one_more_record c.args.cells.now es c.loop-key.now.records e first in
    record {
      counted = counted_more c.args.cells.now es e c.loop-key.now now c.loop-key.invariant.counted first c.in_ok-now.ensures.records c.in_ok-now.ensures.images c.in_ok-now.ensures.form c.in_ok-now.ensures.weight;
      rest = more.1 ∙ ap (λ (k : ℕ). drop k c.args.cells.now) (sym c.in_ok-now.ensures.records);
      left = omega (arith, c.loop-key.invariant.left, c.if-left-eq0.false, c.in_ok-now.ensures.records);
    }

pub returns-clause-ok : goal.returns-clause-ok
returns-clause-ok c =
    let none_left : c.loop-key.key-iterator ≡ [] = search rules in
    let over = ap length (sym c.loop-key.invariant.rest ∙ none_left) in
    (c.loop-key.invariant.counted, omega (arith, over, length-drop c.loop-key.now.records c.args.cells.now, c.loop-key.invariant.left, c.loop-key.invariant.counted.within))
