-- Wherever the copies that are left lead, all copies lead.
use Rattle.std.proofs.Common.{◌≡◌, length}
use Rattle.std.specs.Vec.Iter.{into_iter_items, into_iter_len}
use Rattle.pn_serve.proofs.Recutting.{LeadOn, StopOn}
use Rattle.pn_serve.proofs.copies.starting.adopt_each.Given as goal

abbrev pub invariant-loop-copy : goal.invariant-loop-copy
invariant-loop-copy l = record {
  on : LeadOn (into_iter_items l.copy-iterator) l.region.state l.fn.copies.items l.initial.region.state;
  stop : StopOn (into_iter_items l.copy-iterator) l.region.state l.fn.copies.items l.initial.region.state;
  left : into_iter_len l.copy-iterator ≡ length (into_iter_items l.copy-iterator);
}
