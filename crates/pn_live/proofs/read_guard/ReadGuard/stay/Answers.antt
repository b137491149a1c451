-- Both positions are of one book. The reader leaves where it learnt of more than one attempt after the state found.
use Rattle.std.proofs.Common.{◌≡◌, ◌+◌, ◌≤◌, length, ⊎_elim, ap, sym, subst, ◌∙◌}
use Rattle.std.proofs.lemmas.Bool.Decides.{leb_tells}
use Rattle.pn_live.specs.declared.published_state.PublishedState.{PublishedState}
use Rattle.pn_live.proofs.read_guard.ReadGuard.stay.Goals as goal

pub is_within-near-requires : goal.is_within-near-requires
is_within-near-requires c = ap (λ (x : PublishedState). x.position.seen.book) (c.get-shown.ensures ∙ c.requires.held) ∙ c.requires.book

pub returns-clause-far : goal.returns-clause-far
returns-clause-far c =
    let learnt = c.args.learnt.seen.log in
    let found = c.args.found.value in
    let same : c.get-shown.result.now ≡ found = c.get-shown.ensures ∙ c.requires.held in
    ⊎_elim
    (λ t. absurd (cc (c.if-near.false, c.is_within-near.ensures.exact.1 (subst (λ (x : PublishedState). length learnt ≤ length x.position.seen.log + 1) (sym same) t.1))))
    (λ t. t.1)
    (leb_tells (length learnt) (length found.position.seen.log + 1))
