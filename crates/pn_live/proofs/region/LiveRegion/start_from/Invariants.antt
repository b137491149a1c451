-- Wherever the copies that are left lead, all copies lead.
use Rattle.std.proofs.Common.{◌≡◌, length}
use Rattle.std.specs.Vec.Iter.{into_iter_items, into_iter_len}
use Rattle.pn_live.specs.LiveRegions.{tablets_in}
use Rattle.pn_live.proofs.Events.{LeadOn, StopOn}
use Rattle.pn_live.proofs.region.LiveRegion.start_from.Given as goal

abbrev pub invariant-loop-copy : goal.invariant-loop-copy
invariant-loop-copy g l = record {
  on : LeadOn (into_iter_items l.copy-iterator) l.self l.fn.copies.items l.initial.self;
  stop : StopOn (into_iter_items l.copy-iterator) l.self l.fn.copies.items l.initial.self;
  same : tablets_in l.self ≡ tablets_in l.initial.self;
  left : into_iter_len l.copy-iterator ≡ length (into_iter_items l.copy-iterator);
}
