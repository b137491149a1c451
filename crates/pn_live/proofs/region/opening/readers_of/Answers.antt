-- The tablet readers are of the layout's ranges.
use Rattle.std.proofs.Common.{map, sym, ap, ◌∙◌}
use Rattle.pn_apply.specs.Reducing.{ranges}
use Rattle.pn_live.specs.PublishedTablets.{PublishedTabletValue}
use Rattle.pn_live.specs.Readers.{TabletReaderValue}
use Rattle.pn_live.proofs.Events.{opened_ranges}
use Rattle.pn_live.proofs.region.opening.readers_of.Goals as goal

pub of-requires : goal.of-requires
of-requires c =
    ap (map (λ (w : TabletReaderValue). w.range)) c.in_ok-tablet_readers.ensures.tablet_readers
    ∙ (opened_ranges c.loop.tablets ∙ (ap (map (λ (p : PublishedTabletValue). p.range)) c.loop.invariant.same ∙ (c.requires ∙ ap ranges (sym c.in_ok-layout.ensures))))
