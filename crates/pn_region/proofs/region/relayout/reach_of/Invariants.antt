-- The reach so far is the greatest of those of the parts before, and reaches the least of their covers.
use Rattle.std.proofs.Common.{◌≡◌, take, IsTrue}
use Rattle.pn_region.specs.Recovery.{parts_of, least_cover, greatest_reach}
use Rattle.pn_region.proofs.Common.{Reaches, are_positions}
use Rattle.pn_region.proofs.region.relayout.reach_of.Given as goal

abbrev pub invariant-loop-tablet : goal.invariant-loop-tablet
invariant-loop-tablet l = record {
  reach : l.reach ≡ greatest_reach (parts_of (take l.tablet-index l.tablets) l.range);
  positions : IsTrue (are_positions l.reach);
  reached : Reaches l.reach (least_cover (parts_of (take l.tablet-index l.tablets) l.range));
}
