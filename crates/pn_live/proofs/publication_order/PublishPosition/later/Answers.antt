-- What is settled at the earlier position begins what is settled at the later.
use Rattle.std.proofs.Common.{length, ◌≤◌, arith}
use Rattle.pn_live.proofs.Prefixes.{settled_in_longer}
use Rattle.pn_live.proofs.publication_order.PublishPosition.later.Goals as goal

pub returns-then-self-other-clause-this : goal.returns-then-self-other-clause-this
returns-then-self-other-clause-this g c =
    let mine = c.args.self.now in
    let theirs = c.args.other.now in
    let less : length mine.seen.log ≤ length theirs.seen.log = omega (arith, mine.counted, theirs.counted) in
    rw (c.again.ensures) (settled_in_longer mine.seen.log theirs.seen.log c.recall_common_log.ensures.0 c.recall_common_log.ensures.3 c.recall_common_log.ensures.1 c.recall_common_log.ensures.2 less)

pub returns-else-self-other-clause-that : goal.returns-else-self-other-clause-that
returns-else-self-other-clause-that g c =
    let mine = c.args.self.now in
    let theirs = c.args.other.now in
    let less : length theirs.seen.log ≤ length mine.seen.log = omega (arith, mine.counted, theirs.counted) in
    rw (c.again-else-self-other.ensures) (settled_in_longer theirs.seen.log mine.seen.log c.recall_common_log.ensures.0 c.recall_common_log.ensures.3 c.recall_common_log.ensures.2 c.recall_common_log.ensures.1 less)
