-- The cover so far is the least of those of the parts before.
use Rattle.std.proofs.Common.{◌≡◌, take, unwrap_or, IsTrue, []}
use Rattle.pn_region.specs.Recovery.{parts_of}
use Rattle.pn_region.proofs.Common.{are_positions}
use Rattle.pn_region.proofs.PartMarks.{least_so_far}
use Rattle.pn_region.proofs.region.relayout.cover_of.Given as goal

abbrev pub invariant-loop-tablet : goal.invariant-loop-tablet
invariant-loop-tablet l = record {
  least : l.least ≡ least_so_far (parts_of (take l.tablet-index l.tablets) l.range);
  positions : IsTrue (are_positions (unwrap_or l.least []));
}
