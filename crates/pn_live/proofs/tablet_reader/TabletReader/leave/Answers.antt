-- The reader keeps what it learnt, and what was found is seen.
use Rattle.std.proofs.Common.{ap, ◌∙◌}
use Rattle.pn_live.specs.Attempts.{settled_of}
use Rattle.pn_live.proofs.tablet_reader.TabletReader.leave.Goals as goal

pub returns : goal.returns
returns c = λ i. record {
  book = (c.of.ensures.book ∙ ap (λ s. s.seen.book) c.leave.ensures.learnt) i;
  range = (c.of.ensures.range ∙ c.leave.ensures.range) i;
  seen = (c.of.ensures.seen ∙ c.leave.ensures.seen) i;
  learnt = (c.of.ensures.learnt ∙ ap (λ s. settled_of s.seen.log) c.leave.ensures.learnt) i;
}
