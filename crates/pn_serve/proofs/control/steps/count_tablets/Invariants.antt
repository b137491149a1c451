-- The tablets so far were counted.
use Rattle.std.proofs.Common.{◌≡◌, ◌≤◌, length, vec_capacity}
use Rattle.pn_serve.specs.Control.Steps.{AreCounted}
use Rattle.pn_serve.proofs.control.steps.count_tablets.Given as goal

abbrev pub invariant-loop-tablet : goal.invariant-loop-tablet
invariant-loop-tablet l = record {
  counted : AreCounted l.initial.reader 0 l.stats.items l.reader;
  len : length l.stats.items ≡ l.tablet;
  capacity : l.count ≤ vec_capacity l.stats;
}
