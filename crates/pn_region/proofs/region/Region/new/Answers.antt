-- Empty tablets of the layout's ranges.
use Rattle.std.proofs.Common.{refl, sym, subst, arith}
use Rattle.pn_tablet.specs.Layouts.{IsLayout}
use Rattle.pn_region.specs.Regions.{AreRegionMarks}
use Rattle.pn_region.proofs.RoundSteps.{new_is}
use Rattle.pn_region.proofs.region.Region.new.Goals as goal

pub invariant_of-result : goal.invariant_of-result
invariant_of-result c = record {
  is_region = new_is c.args.layout c.in_ok-tablets.tablets.items c.new-2.result (subst IsLayout c.layout.view_is c.layout.invariant) c.in_ok-tablets.ensures c.new-2.ensures;
  are_marks = subst AreRegionMarks (sym c.new-2.ensures) (record { few = omega arith; positions = refl });
}
