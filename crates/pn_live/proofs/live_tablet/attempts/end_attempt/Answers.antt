-- The attempt that settles what was tried may come next.
use Rattle.std.proofs.Common.{ap, ◌∙◌, []}
use Rattle.pn_live.specs.Attempts.{settled_of, tried_of, well_ended}
use Rattle.pn_live.proofs.Prefixes.{well_ended_follows, settled_last, tried_last}
use Rattle.pn_live.proofs.live_tablet.attempts.end_attempt.Goals as goal

pub append-requires-clause-lawful : goal.append-requires-clause-lawful
append-requires-clause-lawful g c = rw (c.again.ensures) (well_ended_follows c.args.latest.seen.log c.requires.goes_on)

pub returns-clause-settled : goal.returns-clause-settled
returns-clause-settled g c =
    let attempt = well_ended c.again.result.seen.log in
    ap settled_of c.append.ensures.log ∙ (settled_last [] c.args.latest.seen.log attempt ∙ ap (λ s. tried_of s.seen.log) c.again.ensures)

pub returns-clause-tried : goal.returns-clause-tried
returns-clause-tried g c =
    let attempt = well_ended c.again.result.seen.log in
    ap tried_of c.append.ensures.log ∙ (tried_last [] c.args.latest.seen.log attempt ∙ ap (λ s. tried_of s.seen.log) c.again.ensures)
