-- The state shown extends the one before.
use Rattle.std.proofs.Common.{sym, subst}
use Rattle.left_right.specs.declared.part.Part.{Part}
use Rattle.pn_live.specs.declared.published_state.PublishedState.{PublishedState}
use Rattle.pn_live.specs.Orders.{IsLater}
use Rattle.pn_live.proofs.Prefixes.{turns_at}
use Rattle.pn_live.proofs.live_tablet.fn.show.replace_with.Goals as goal

pub show_as-requires : goal.show_as-requires
show_as-requires g c = turns_at _ _ _ _ (subst (λ (p : Part PublishedState). IsLater p.value c.captures.next) (sym c.open-open.ensures.values.0) c.requires)
