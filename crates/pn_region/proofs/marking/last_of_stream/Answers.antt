-- The streams are compared by their names.
use Rattle.std.proofs.Common.{◌∙◌}
use Rattle.pn_region.proofs.Following.{other_stream, own_stream}
use Rattle.pn_region.proofs.marking.last_of_stream.Goals as goal

pub returns-then-ne : goal.returns-then-ne
returns-then-ne g c = other_stream c.args.stream.now (g.B.Batch.delivery c.args.delivery.now) c.stream.result.now _ c.ne.ensures c.stream.ensures c.if-ne.true

pub returns : goal.returns
returns g c = c.last_of.ensures.last ∙ own_stream c.args.stream.now (g.B.Batch.delivery c.args.delivery.now) c.stream.result.now _ c.ne.ensures c.stream.ensures c.if-ne.false
