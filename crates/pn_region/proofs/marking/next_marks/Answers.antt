-- A fault that is met is the right one.
use Rattle.std.proofs.Common.{map}
use Rattle.pn_stream.proofs.Runs.{passed_on}
use Rattle.pn_region.proofs.Following.{refused_right}
use Rattle.pn_region.proofs.marking.next_marks.Goals as goal

pub returns-in_err-check_marks-clause-refused : goal.returns-in_err-check_marks-clause-refused
returns-in_err-check_marks-clause-refused g c =
    passed_on c.from_residual.result c.in_err-check_marks.field-0.0 _ c.from_residual.ensures.1
    (refused_right c.args.marks.now (map g.B.Batch.delivery c.args.deliveries.now) c.in_err-check_marks.field-0.0 c.in_err-check_marks.ensures.refused)
