-- A live region that is new, and its readers.
use Rattle.std.proofs.Common.{◌≡◌, map, refl, sym, ap, ◌∙◌, subst, [], arith}
use Rattle.std.specs.Vec.{with_items}
use Rattle.std.proofs.lemmas.List.{with_items_is}
use Rattle.pn_tablet.specs.Layouts.{IsLayout}
use Rattle.pn_apply.specs.Reducing.{ranges}
use Rattle.pn_live.specs.LiveRegions.{LiveRegionValue}
use Rattle.pn_live.specs.PublishedTablets.{PublishedTabletValue, AreNewTablets}
use Rattle.pn_live.proofs.Events.{new_ranges, new_lawful, new_readers}
use Rattle.pn_live.proofs.region.LiveRegion.open.Goals as goal

pub readers_of-requires : goal.readers_of-requires
readers_of-requires g c =
    ap (map (λ (p : PublishedTabletValue). p.range)) c.as_mut_slice.ensures.value ∙ new_ranges (ranges c.args.layout) c.in_ok-tablets.tablets.items c.in_ok-tablets.ensures

pub invariant_of-live : goal.invariant_of-live
invariant_of-live g c =
    let us = c.readers_of.new.tablets in
    let tablets = c.in_ok-tablets.tablets in
    let same = with_items_is tablets us (omega (arith, c.readers_of.auto.tablets, c.as_mut_slice.ensures.len)) in
    let live : LiveRegionValue = record { layout = c.args.layout; tablets = (with_items tablets us).items; marks = c.new-in-Ok.result; log = c.in_ok-log.log; order = [] } in
    let placed : live.tablets ≡ tablets.items = same ∙ (c.in-Ok.ensures.same ∙ c.as_mut_slice.ensures.value) in
    new_lawful live (subst IsLayout c.layout.view_is c.layout.invariant) (subst (AreNewTablets (ranges c.args.layout)) (sym placed) c.in_ok-tablets.ensures) c.new-in-Ok.ensures

pub returns-in-Ok-clause-readers : goal.returns-in-Ok-clause-readers
returns-in-Ok-clause-readers g c =
    let us = c.readers_of.new.tablets in
    let tablets = c.in_ok-tablets.tablets in
    let same = with_items_is tablets us (omega (arith, c.readers_of.auto.tablets, c.as_mut_slice.ensures.len)) in
    let live : LiveRegionValue = record { layout = c.args.layout; tablets = (with_items tablets us).items; marks = c.new-in-Ok.result; log = c.in_ok-log.log; order = [] } in
    let kept = same ∙ c.in-Ok.ensures.same in
    let placed : live.tablets ≡ tablets.items = kept ∙ c.as_mut_slice.ensures.value in
    new_readers live c.args.layout c.as_mut_slice.result.now c.in-Ok.readers.items (subst (AreNewTablets (ranges c.args.layout)) (sym placed) c.in_ok-tablets.ensures) refl kept c.in-Ok.ensures.readers
