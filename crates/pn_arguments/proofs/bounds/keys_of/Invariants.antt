-- The keys so far, then those of the rest, are the keys of all.
use Rattle.std.proofs.Common.{◌≡◌, drop, length}
use Rattle.std.specs.Prelude.{vec_len, vec_capacity}
use Rattle.serde_json.specs.View.{items_view}
use Rattle.pn_json.specs.Members.{each_in}
use Rattle.pn_arguments.specs.OptionTexts.{key_in}
use Rattle.pn_protocol.proofs.CommandLimits.{onto}
use Rattle.pn_arguments.proofs.bounds.keys_of.Given as goal

abbrev pub invariant-loop-item : goal.invariant-loop-item
invariant-loop-item l = record {
  so_far : each_in key_in (items_view l.items) ≡ onto l.keys.items (each_in key_in (items_view (drop l.item-index l.items)));
  count : vec_len l.keys ≡ l.item-index;
  capacity : vec_capacity l.keys ≡ length l.items;
}
