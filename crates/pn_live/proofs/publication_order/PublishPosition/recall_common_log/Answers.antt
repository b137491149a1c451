-- The attempts of either position begin those that were learnt.
use Rattle.std.proofs.Common.{ap, subst}
use mathlib.Core.List.{IsPrefix}
use Rattle.pn_live.proofs.publication_order.PublishPosition.recall_common_log.Goals as goal

pub returns : goal.returns
returns g c = (c.learn.new.self.log, subst (λ l. IsPrefix l c.learn.new.self.log) (ap (λ s. s.log) c.again-both.ensures) c.learn.ensures.2, c.learn.ensures.3, c.learn.ensures.4.1.lawful)
