-- What is left fits exactly where all does, and its bytes are what is missing to the bytes of all.
use Rattle.std.proofs.Common.{◌≡◌, ◌≤◌, ◌+◌}
use Rattle.std.specs.Prelude.{sum_by}
use Rattle.std.specs.List.{list_all}
use Rattle.serde_json.specs.View.{members_view}
use Rattle.pn_record.specs.Limits.{field_size, is_field}
use Rattle.pn_record.specs.Grammar.{fields_of}
use Rattle.pn_record.proofs.as_json.unchecked.fields_fit.Given as goal

abbrev pub invariant-loop-name : goal.invariant-loop-name
invariant-loop-name l = record {
  each : list_all is_field (fields_of (members_view l.name-iterator)) ≡ list_all is_field (fields_of (members_view l.members.entries));
  together : l.bytes + sum_by field_size (fields_of (members_view l.name-iterator)) ≡ sum_by field_size (fields_of (members_view l.members.entries));
  few : l.bytes ≤ 8192;
}
