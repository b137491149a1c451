-- What is left is whole numbers alone exactly where all is.
use Rattle.std.proofs.Common.{◌≡◌}
use Rattle.serde_json.specs.View.{members_view}
use Rattle.pn_record.specs.Marks.{all_whole}
use Rattle.pn_record.proofs.as_json.marks.has_whole_numbers_alone.Given as goal

abbrev pub invariant-loop-value : goal.invariant-loop-value
invariant-loop-value l =
    all_whole (members_view l.value-iterator) ≡ all_whole (members_view l.members.entries)
