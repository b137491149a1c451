-- The marks so far are the least of the covers of the tablets before.
use Rattle.std.proofs.Common.{◌≡◌, map, take, unwrap_or, IsTrue, []}
use Rattle.pn_region.proofs.Common.{are_positions}
use Rattle.pn_region.proofs.PartMarks.{least_so_far}
use Rattle.pn_region.proofs.advancing.least_of.Given as goal

abbrev pub invariant-loop-tablet : goal.invariant-loop-tablet
invariant-loop-tablet g l = record {
  least : l.least ≡ least_so_far (map g.T.Covered.tablet (take l.tablet-index l.tablets));
  positions : IsTrue (are_positions (unwrap_or l.least []));
}
