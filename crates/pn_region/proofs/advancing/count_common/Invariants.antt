-- The count so far, with that of the names that are left, is how many streams all have.
use Rattle.std.proofs.Common.{◌≡◌, ◌+◌, ◌-◌, ◌^◌, ◌≤◌, min, length, map}
use Rattle.pn_region.specs.Recovery.{least_cover}
use Rattle.pn_region.proofs.Advanced.{all_have, passing}
use Rattle.pn_region.proofs.advancing.count_common.Given as goal

abbrev pub invariant-loop-name : goal.invariant-loop-name
invariant-loop-name g l = record {
  counted : min (l.count + passing (all_have (map g.T.Covered.tablet l.tablets)) l.name-iterator) (2 ^ 64 - 1) ≡ min (length (least_cover (map g.T.Covered.tablet l.tablets))) (2 ^ 64 - 1);
  within : l.count ≤ 2 ^ 64 - 1;
}
