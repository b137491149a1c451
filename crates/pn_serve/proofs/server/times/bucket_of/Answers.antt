-- One limit more is passed.
use Rattle.std.proofs.Common.{◌<◌, get_or, arith}
use Rattle.std.proofs.lemmas.List.Elements.{All-more}
use Rattle.pn_serve.proofs.server.times.bucket_of.Goals as goal

pub loop-index-preserved : goal.loop-index-preserved
loop-index-preserved c =
    let at = c.loop-index in
    let passed : get_or c.args.limits.now at.index 0 < c.args.micros = omega (arith, c.if-micros-limits.false) in
    All-more (λ limit. limit < c.args.micros) c.args.limits.now at.index 0 c.loop-index-test.true at.invariant passed
