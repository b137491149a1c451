-- The images so far, then those of the rest, are those of all.
use Rattle.std.proofs.Common.{◌≡◌}
use Rattle.std.specs.Vec.Iter.{into_iter_items}
use Rattle.serde_json.specs.View.{items_view}
use Rattle.pn_json.specs.Members.{each_in}
use Rattle.pn_record.specs.Grammar.{image_in}
use Rattle.pn_protocol.proofs.CommandLimits.{onto}
use Rattle.pn_protocol.proofs.command.build.build_images.Given as goal

abbrev pub invariant-loop-value : goal.invariant-loop-value
invariant-loop-value l =
    each_in image_in (items_view l.fn.values.items) ≡ onto l.images.items (each_in image_in (items_view (into_iter_items l.value-iterator)))
