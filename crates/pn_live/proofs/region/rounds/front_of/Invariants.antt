-- The tablets so far are noted.
use Rattle.std.proofs.Common.{◌≡◌, map, take, length, vec_capacity}
use Rattle.pn_live.specs.PublishedTablets.{note_of}
use Rattle.pn_live.proofs.region.rounds.front_of.Given as goal

abbrev pub invariant-loop-tablet : goal.invariant-loop-tablet
invariant-loop-tablet l = record {
  notes : l.notes.items ≡ map note_of (take l.tablet-index l.tablets);
  capacity : vec_capacity l.notes ≡ length l.tablets;
}
