-- The ranges that are left follow those before them exactly if all follow one another.
use Rattle.std.proofs.Common.{◌≡◌, map, length, None, option_copied}
use Rattle.pn_tablet.specs.Layouts.{follow_from}
use Rattle.pn_tablet.proofs.CutRanges.{InOrder}
use Rattle.pn_tablet.proofs.layout.follow.Given as goal

abbrev pub invariant-copies : goal.invariant-copies
invariant-copies l = record {
  same : follow_from None (map (λ copy. copy.range) l.copies) ≡ follow_from (option_copied l.from) (map (λ copy. copy.range) l.rest);
  order : InOrder (map (λ copy. copy.range) l.rest) → InOrder (map (λ copy. copy.range) l.copies);
}

abbrev pub decreases-copies : goal.decreases-copies
decreases-copies l = length l.rest
