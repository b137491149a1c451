-- The weight of the records so far.
use Rattle.std.proofs.Common.{◌≡◌, ◌≤◌, ◌-◌, ◌^◌, length, min, take}
use Rattle.std.specs.List.{sum_by}
use Rattle.pn_protocol.specs.Reply.Making.{found_in, found_weight}
use Rattle.pn_protocol.proofs.reply.shown_records.ShownRecords.weight.Given as goal

abbrev pub invariant-records : goal.invariant-records
invariant-records l = record {
  weighed : l.weight ≡ min (sum_by found_weight (take l.index (found_in l.self))) (2 ^ 64 - 1);
  within : l.index ≤ length (found_in l.self);
}

abbrev pub decreases-records : goal.decreases-records
decreases-records l = length (found_in l.self) - l.index
