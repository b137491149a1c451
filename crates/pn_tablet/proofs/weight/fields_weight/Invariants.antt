-- The weight of the fields so far.
use Rattle.std.proofs.Common.{◌≡◌, ◌-◌, ◌^◌, map, take, min}
use Rattle.std.specs.List.{sum_by}
use Rattle.pn_record.specs.Showing.{shown_field}
use Rattle.pn_tablet.specs.Tablets.{field_weight}
use Rattle.pn_tablet.proofs.weight.fields_weight.Given as goal

abbrev pub invariant-loop-field : goal.invariant-loop-field
invariant-loop-field l = l.weight ≡ min (sum_by field_weight (take l.field-index (map shown_field l.fields))) (2 ^ 64 - 1)
