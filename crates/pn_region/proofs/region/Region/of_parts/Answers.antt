-- Parts that fit are a region.
use Rattle.std.proofs.Common.{List, subst}
use Rattle.pn_region.proofs.Common.{AllByRecursion, TabletStateValue, ranges, IsSound}
use Rattle.pn_region.proofs.PartMarks.{parts_are_tablets}
use Rattle.pn_region.proofs.region.Region.of_parts.Goals as goal

pub invariant_of-result : goal.invariant_of-result
invariant_of-result c = record {
  is_region = record {
    lawful = c.recall_all.ensures.lawful;
    tablets = parts_are_tablets c.args.marks (ranges c.args.layout) c.args.tablets.items c.requires.tablets (subst (λ (ts : List TabletStateValue). AllByRecursion IsSound ts) c.deref.ensures.value c.recall_all.ensures.sound);
  };
  are_marks = record { few = c.requires.few; positions = c.requires.positions };
}
