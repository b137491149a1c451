-- What was taken shows what all show.
use Rattle.std.proofs.Common.{ap, ◌∙◌}
use Rattle.pn_scan.specs.Paging.{walk_answer}
use Rattle.pn_scan.proofs.Looking.{slice_answer}
use Rattle.pn_scan.proofs.part.take_rest.Goals as goal

pub returns-clause-same : goal.returns-clause-same
returns-clause-same c =
    let query = c.args.query.now in
    ap (walk_answer query) c.new.ensures
    ∙ slice_answer query c.args.cells.now c.in_ok-rest.rest c.args.next.index c.args.next.seen c.end_of_range.result c.max-end.result c.args.room c.args.rows.items c.in_ok-rest.ensures c.end_of_range.ensures.shown c.max-end.ensures
