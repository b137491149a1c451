-- All images, all marks, the head and the end.
use Rattle.std.proofs.Common.{length, ap, arith}
use Rattle.std.proofs.lemmas.Result.{MatchResult-weaker, err_from_is_err_and}
use Rattle.pn_tablet.specs.Copies.{TabletCopyValue}
use Rattle.pn_tablet.proofs.CopyCounted.{copy_lines, counted_all}
use Rattle.pn_tablet.proofs.copy_count.count_lines.Goals as goal

pub returns-in_err-lines : goal.returns-in_err-lines
returns-in_err-lines c =
    let all = counted_all c.args.copy.now.cells c.args.counted c.requires.counted c.requires.all in
    let marks = ap (λ (of : TabletCopyValue). length of.marks) c.copy.view_is in
    let gave = err_from_is_err_and c.from_residual.result c.from_residual.ensures.1 in
    rw gave.1 (omega (arith, all.0, marks, copy_lines c.args.copy.now, c.in_err-lines.ensures, c.len.ensures.count))

pub returns : goal.returns
returns c =
    let all = counted_all c.args.copy.now.cells c.args.counted c.requires.counted c.requires.all in
    let marks = ap (λ (of : TabletCopyValue). length of.marks) c.copy.view_is in
    MatchResult-weaker c.add-2.result c.add-2.ensures (λ lines is. omega (arith, is, all.0, marks, copy_lines c.args.copy.now, c.in_ok-lines.ensures, c.len.ensures.count))
    (λ fault many. omega (arith, many, all.0, marks, copy_lines c.args.copy.now, c.in_ok-lines.ensures, c.len.ensures.count))
