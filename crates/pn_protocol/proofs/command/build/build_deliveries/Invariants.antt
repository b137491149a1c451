-- The deliveries so far, then those of the rest, are those of all.
use Rattle.std.proofs.Common.{◌≡◌}
use Rattle.std.specs.Vec.Iter.{into_iter_items}
use Rattle.serde_json.specs.View.{items_view}
use Rattle.pn_json.specs.Members.{each_in}
use Rattle.pn_protocol.specs.Command.Lines.{batch_in}
use Rattle.pn_protocol.proofs.CommandLimits.{onto}
use Rattle.pn_protocol.proofs.command.build.build_deliveries.Given as goal

abbrev pub invariant-loop-batch : goal.invariant-loop-batch
invariant-loop-batch l =
    each_in batch_in (items_view l.fn.batches.items) ≡ onto l.deliveries.items (each_in batch_in (items_view (into_iter_items l.batch-iterator)))
