-- One more draft is that of its tablet.
use Rattle.std.proofs.Common.{◌≡◌, List, [], ◌∷◌, ◌++◌, length, map, take, get_or, sym, ap, ◌∙◌, ◌+◌, arith}
use Rattle.std.proofs.lemmas.List.{take_more, take_all, length_push, map-append}
use Rattle.pn_live.specs.PublishedTablets.{PublishedTabletValue, state_at}
use Rattle.pn_live.proofs.Rounds.{set_same}
use Rattle.pn_live.proofs.region.planning.take_drafts.Goals as goal

pub loop-number-preserved : goal.loop-number-preserved
loop-number-preserved g c =
    let was = c.loop-number in
    let tablets = c.args.tablets.now in
    let n = was.number in
    let tablet = c.index-tablets-number.result in
    let draft = c.in_ok-draft.field-0 in
    let at : tablet ≡ get_or was.tablets n tablet = c.index-tablets-number.is in
    let first : tablet ≡ get_or tablets n tablet = at ∙ ap (λ (ps : List PublishedTabletValue). get_or ps n tablet) was.invariant.same in
    let grown = c.push_reserved.ensures.items in
    let more : take (n + 1) tablets ≡ take n tablets ++ tablet ∷ [] = take_more tablets n tablet c.loop-number-test.true ∙ ap (λ (p : PublishedTabletValue). take n tablets ++ p ∷ []) (sym first) in
    let here : draft ≡ state_at tablet = c.in_ok-draft.ensures.draft ∙ ap state_at (sym at) in
    record {
      drafts = grown ∙ (λ i. was.invariant.drafts i ++ here i ∷ []) ∙ sym (ap (map state_at) more ∙ map-append state_at (take n tablets) (tablet ∷ []));
      same = set_same was.tablets n tablet c.draft.new.self at (c.in_ok-draft.ensures.same ∙ sym at) ∙ was.invariant.same;
      count = ap length grown ∙ (length_push was.drafts.items draft ∙ ap (λ k. k + 1) was.invariant.count);
      capacity = c.push_reserved.ensures.capacity ∙ was.invariant.capacity;
    }

pub returns : goal.returns
returns g c =
    let at = c.loop-number in
    let tablets = c.args.tablets.now in
    record {
      drafts = at.invariant.drafts ∙ ap (map state_at) (take_all at.number tablets (omega (arith, c.loop-number-test.false)));
      same = at.invariant.same;
    }
