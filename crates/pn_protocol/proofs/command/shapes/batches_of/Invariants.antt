-- The shapes so far, then those of the rest, are the shapes of all.
use Rattle.std.proofs.Common.{◌≡◌, drop, length}
use Rattle.std.specs.Prelude.{vec_len, vec_capacity}
use Rattle.serde_json.specs.View.{items_view}
use Rattle.pn_json.specs.Members.{each_in}
use Rattle.pn_protocol.specs.Command.Checks.{batch_shape}
use Rattle.pn_protocol.proofs.CommandLimits.{onto}
use Rattle.pn_protocol.proofs.command.shapes.batches_of.Given as goal

abbrev pub invariant-loop-item : goal.invariant-loop-item
invariant-loop-item l = record {
  so_far : each_in batch_shape (items_view l.items) ≡ onto l.batches.items (each_in batch_shape (items_view (drop l.item-index l.items)));
  count : vec_len l.batches ≡ l.item-index;
  capacity : vec_capacity l.batches ≡ length l.items;
}
