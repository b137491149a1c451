-- What is settled at a position that is near begins what is tried.
use Rattle.std.proofs.Common.{◌≤◌, ◌+◌, length, ⊎_elim, arith}
use Rattle.std.proofs.lemmas.Bool.{leb-true}
use Rattle.std.proofs.lemmas.Bool.Decides.{leb_tells}
use Rattle.pn_live.proofs.Prefixes.{learnt_begins_shown}
use Rattle.pn_live.proofs.publication_order.PublishPosition.is_within.Goals as goal

pub returns-clause-exact : goal.returns-clause-exact
returns-clause-exact g c =
    let learnt = c.args.self.now in
    let shown = c.args.shown.now in
    let last = c.saturating_add.result in (
      (λ near. let within = leb-true learnt.count last near in omega (arith, within, c.saturating_add.ensures, learnt.counted, shown.counted)),
      (λ (few : length learnt.seen.log ≤ length shown.seen.log + 1). ⊎_elim (λ t. t.0) (λ t. absurd (omega (arith, t.1, few, c.saturating_add.ensures, learnt.counted, shown.counted, c.args.self.now.counted))) (leb_tells learnt.count last)),
    )

pub returns-clause-begins : goal.returns-clause-begins
returns-clause-begins g c near =
    let learnt = c.args.self.now in
    let shown = c.args.shown.now in
    let within = leb-true learnt.count c.saturating_add.result near in
    learnt_begins_shown learnt.seen.log shown.seen.log c.recall_common_log.ensures.0 c.recall_common_log.ensures.3 c.recall_common_log.ensures.1 c.recall_common_log.ensures.2
    (omega (arith, within, c.saturating_add.ensures, learnt.counted, shown.counted))
