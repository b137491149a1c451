-- The state found extends the one before.
use Rattle.std.proofs.Common.{◌≡◌, ap, sym, subst, ◌∙◌, Some}
use Rattle.pn_live.specs.declared.published_state.PublishedState.{PublishedState}
use Rattle.pn_live.specs.Orders.{IsLater}
use Rattle.pn_live.proofs.Prefixes.{turns, goes_on_from}
use Rattle.pn_live.proofs.reader_handle.find.Goals as goal

pub enter_as-requires : goal.enter_as-requires
enter_as-requires c = turns _ _

pub returns-in-Ok : goal.returns-in-Ok
returns-in-Ok c =
    let rule = c.in-Ok.ensures.1 in
    let same : c.in-Ok.reading.part.value ≡ c.of-now.result.value = sym (c.of-now.ensures ∙ c.get.ensures) in
    (subst (λ (x : PublishedState). IsLater c.args.before.now.value x) same (goes_on_from _ _ c.args.before.now.value c.in-Ok.reading.part.value c.in-Ok.reading.part.value c.requires rule), rule.1 ∙ ap Some same, same)
