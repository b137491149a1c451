-- Two positions of one book are the same exactly where they have as many attempts.
use Rattle.std.proofs.Common.{length, ◌≤◌, ⊎_elim, ap, sym, ◌∙◌, arith}
use Rattle.std.proofs.lemmas.Bool.{eqb-true}
use Rattle.std.proofs.lemmas.Bool.Decides.{eqb_tells}
use Rattle.pn_live.proofs.Prefixes.{shorter_begins, begins_no_more}
use Rattle.pn_live.proofs.publication_order.PublishPosition.is_same.Goals as goal

pub returns : goal.returns
returns g c =
    let mine = c.args.self.now in
    let theirs = c.args.other.now in (
      (λ same.
          let alike = eqb-true mine.count theirs.count same in
          let less : length mine.seen.log ≤ length theirs.seen.log = omega (arith, alike, mine.counted, theirs.counted) in
          let more : length theirs.seen.log ≤ length mine.seen.log = omega (arith, alike, mine.counted, theirs.counted) in
          begins_no_more mine.seen.log theirs.seen.log (shorter_begins mine.seen.log theirs.seen.log c.recall_common_log.ensures.0 c.recall_common_log.ensures.1 c.recall_common_log.ensures.2 less) more),
      (λ log. ⊎_elim (λ t. t.0) (λ t. absurd (t.1 (mine.counted ∙ (ap length log ∙ sym theirs.counted)))) (eqb_tells mine.count theirs.count)),
    )
