-- The copy's tablet takes it, or says why not.
use Rattle.std.proofs.Common.{◌≡◌, true, Ok, sym, ap, ◌∙◌, subst}
use Rattle.pn_tablet.specs.Copies.{TabletCopyValue}
use Rattle.pn_tablet.specs.Steps.{step}
use Rattle.pn_tablet.specs.Tablets.{lie_in}
use Rattle.pn_tablet.specs.declared.state.TabletOp.TheVariants.{Adopt}
use Rattle.pn_region.specs.Regions.{RegionValue, IsRegion}
use Rattle.pn_region.proofs.OneTablet.{stepping_is}
use Rattle.pn_live.specs.LiveRegions.{LiveRegionValue, core}
use Rattle.pn_live.specs.PublishedTablets.{PublishedTabletValue, state_at}
use Rattle.pn_live.proofs.Adopting.{none_for, too_old_for, next_for, adopts_it, is_taken, only_memory}
use Rattle.pn_live.proofs.region.LiveRegion.adopt.Goals as goal

pub returns-in_default-clause-refused : goal.returns-in_default-clause-refused
returns-in_default-clause-refused g c = none_for c.args.self.now c.args.copy c.copy.view_is c.in_default.ensures

pub returns-in-Some-refusal-clause-refused : goal.returns-in-Some-refusal-clause-refused
returns-in-Some-refusal-clause-refused g c =
    too_old_for c.self.view_is c.copy.view_is c.in-Some.number c.index-tablet.result.now c.in-Some.ensures c.index-tablet.ensures c.in-Some-refusal.fault c.in-Some-refusal.ensures

pub after-requires-clause-taken : goal.after-requires-clause-taken
after-requires-clause-taken g c = is_taken c.self.view_is c.copy.view_is c.in-Some.number c.index-tablet.result.now c.in-Some.ensures c.index-tablet.ensures c.in_default-refusal.ensures

pub returns-in_default-after-clause-refused : goal.returns-in_default-after-clause-refused
returns-in_default-after-clause-refused g c =
    only_memory c.self.view_is c.copy.view_is c.in-Some.number c.index-tablet.result.now c.in-Some.ensures c.index-tablet.ensures c.in_default-refusal.ensures

pub publish_one-requires-clause-next : goal.publish_one-requires-clause-next
publish_one-requires-clause-next g c =
    next_for c.self.view_is c.copy.view_is c.in-Some.number c.index-tablet.result.now c.in-Some.ensures c.index-tablet.ensures
    (λ (p : PublishedTabletValue). step (state_at p) (Adopt c.args.copy) ≡ Ok c.in-Ok.next) c.in-Ok.ensures

pub publish_one-requires-clause-region : goal.publish_one-requires-clause-region
publish_one-requires-clause-region g c =
    stepping_is (core c.args.self.now) c.in-Some.number (Adopt c.args.copy)
    (subst (λ (x : TabletCopyValue). lie_in x.range x.cells ≡ true) c.copy.view_is c.copy.invariant.inside)
    (subst (λ (l : LiveRegionValue). IsRegion (core l)) c.self.view_is c.self.invariant.is_region)

pub returns-in_default-publish_one-clause-refused :
    goal.returns-in_default-publish_one-clause-refused
returns-in_default-publish_one-clause-refused g c =
    only_memory c.self.view_is c.copy.view_is c.in-Some.number c.index-tablet.result.now c.in-Some.ensures c.index-tablet.ensures c.in_default-refusal.ensures

pub returns-clause-ok : goal.returns-clause-ok
returns-clause-ok g c = record {
  tablet = c.in-Some.number;
  adopted =
      adopts_it c.self.view_is c.copy.view_is c.in-Some.number c.index-tablet.result.now c.in-Some.ensures c.index-tablet.ensures c.in_default-refusal.ensures
      ∙ ap (λ (r : RegionValue). Ok (c.in-Some.number, r)) (sym c.in-Ok-publish_one.ensures.state);
  published = c.in-Ok-publish_one.ensures.ok;
}
