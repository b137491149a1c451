-- The fields so far fit, and their bytes are counted.
use Rattle.std.proofs.Common.{◌≡◌, ◌*◌, ◌≤◌, true, map, take}
use Rattle.std.specs.List.{list_all, sum_by}
use Rattle.pn_record.specs.Limits.{field_size, is_field}
use Rattle.pn_record.specs.Showing.{shown_field}
use Rattle.pn_record.proofs.content.fields_fit.Given as goal

abbrev pub invariant-loop-field : goal.invariant-loop-field
invariant-loop-field l =
    let so_far = take l.field-index (map shown_field l.fields) in
    record {
      fit : list_all is_field so_far ≡ true;
      counted : l.bytes ≡ sum_by field_size so_far;
      bounded : l.bytes ≤ 4160 * l.field-index;
    }
