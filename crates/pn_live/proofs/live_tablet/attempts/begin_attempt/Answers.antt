-- The attempt to publish one operation more may come next.
use Rattle.std.proofs.Common.{ap, ◌∙◌, ◌++◌, ◌∷◌, []}
use Rattle.pn_live.specs.Attempts.{settled_of, tried_of, one_more}
use Rattle.pn_live.proofs.Prefixes.{one_more_follows, settled_last, tried_last}
use Rattle.pn_live.proofs.live_tablet.attempts.begin_attempt.Goals as goal

pub append-requires-clause-lawful : goal.append-requires-clause-lawful
append-requires-clause-lawful g c = rw (c.again.ensures) (one_more_follows c.args.latest.seen.log c.of.result.value c.requires.goes_on)

pub returns-clause-settled : goal.returns-clause-settled
returns-clause-settled g c =
    let attempt = one_more c.again.result.seen.log c.of.result.value in
    ap settled_of c.append.ensures.log ∙ (settled_last [] c.args.latest.seen.log attempt ∙ ap (λ s. settled_of s.seen.log) c.again.ensures)

pub returns-clause-tried : goal.returns-clause-tried
returns-clause-tried g c =
    let attempt = one_more c.again.result.seen.log c.of.result.value in
    ap tried_of c.append.ensures.log ∙ (tried_last [] c.args.latest.seen.log attempt ∙ (λ i. settled_of (c.again.ensures i).seen.log ++ c.of.ensures i ∷ []))
