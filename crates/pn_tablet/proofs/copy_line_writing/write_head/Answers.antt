-- The line of a head.
use Rattle.std.proofs.lemmas.Result.{IfOk-weaker}
use Rattle.pn_tablet.specs.CopyTexts.{head_data}
use Rattle.pn_tablet.proofs.CopyWritten.{line_from, head_written}
use Rattle.pn_tablet.proofs.copy_line_writing.write_head.Goals as goal

pub returns-clause-written : goal.returns-clause-written
returns-clause-written c =
    IfOk-weaker c.end_line.result _ _ (λ text line. (line_from c.args.text.items text.items (head_data (c.args.form, c.args.range.now)) c.new-line.ensures.before c.new-line.ensures.tokens c.in_ok-put_head.ensures.value line).0) c.end_line.ensures

pub returns-clause-line : goal.returns-clause-line
returns-clause-line c =
    IfOk-weaker c.end_line.result _ _ (λ text line.
    head_written c.args.text.items text.items c.args.form c.args.range.now c.in_ok-put_head.ensures.from c.in_ok-put_head.ensures.to c.in_ok-put_head.ensures.order
    (line_from c.args.text.items text.items (head_data (c.args.form, c.args.range.now)) c.new-line.ensures.before c.new-line.ensures.tokens c.in_ok-put_head.ensures.value line)) c.end_line.ensures
