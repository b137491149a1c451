-- The line of an end.
use Rattle.std.proofs.Common.{arith, ◌<◌, ◌^◌}
use Rattle.std.proofs.lemmas.Result.{IfOk-weaker}
use Rattle.pn_tablet.specs.CopyTexts.{end_data}
use Rattle.pn_tablet.proofs.CopyWritten.{line_from, end_written}
use Rattle.pn_tablet.proofs.copy_line_writing.write_end.Goals as goal

pub returns : goal.returns
returns c =
    let small : c.args.count < 2 ^ 64 = omega (arith, c.ranges.count.fits) in
    IfOk-weaker c.end_line.result _ _ (λ text line. end_written c.args.text.items text.items c.args.count small
    (line_from c.args.text.items text.items (end_data c.args.count) c.new-line.ensures.before c.new-line.ensures.tokens c.in_ok-put_end.ensures line)) c.end_line.ensures
