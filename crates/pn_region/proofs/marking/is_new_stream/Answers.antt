-- The stream is new where its mark is still 0.
use Rattle.std.proofs.Common.{◌+◌, not, eqb, length, map, sym, ap, ◌∙◌}
use Rattle.std.specs.Int.{from_bool}
use Rattle.pn_region.proofs.Common.{position_of, with_deliveries}
use Rattle.pn_region.proofs.Following.{some_count, taken_count, marked_positions}
use Rattle.pn_region.proofs.marking.is_new_stream.Goals as goal

pub returns-clause-count : goal.returns-clause-count
returns-clause-count g c =
    let f = g.B.Batch.delivery in
    let m = with_deliveries c.args.marks.now (map f c.args.before.now) in
    let d = f c.args.delivery.now in
    let some = some_count c.count.result (length d.images) c.count.ensures c.if-count-eq0.false in
    let mark = c.mark_after-mark.ensures ∙ ap (position_of m) c.stream.ensures in
    taken_count m d c.requires.rising c.requires.positions (ap not some)
    ∙ ap (λ n. length m + from_bool (eqb n 0)) (sym mark)

pub returns-clause-positions : goal.returns-clause-positions
returns-clause-positions g c =
    let f = g.B.Batch.delivery in
    marked_positions (with_deliveries c.args.marks.now (map f c.args.before.now)) (f c.args.delivery.now) c.requires.positions c.first-first.ensures.in_range
