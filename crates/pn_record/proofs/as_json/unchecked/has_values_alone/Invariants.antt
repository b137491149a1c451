-- What is left is values of fields alone exactly where all is.
use Rattle.std.proofs.Common.{◌≡◌}
use Rattle.serde_json.specs.View.{members_view}
use Rattle.pn_record.specs.Grammar.{all_values}
use Rattle.pn_record.proofs.as_json.unchecked.has_values_alone.Given as goal

abbrev pub invariant-loop-value : goal.invariant-loop-value
invariant-loop-value l =
    all_values (members_view l.value-iterator) ≡ all_values (members_view l.members.entries)
