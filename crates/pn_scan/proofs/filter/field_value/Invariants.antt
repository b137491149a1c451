-- The field is among those that are left.
use Rattle.std.proofs.Common.{◌≡◌, map, drop}
use Rattle.std.specs.FinMap.{find}
use Rattle.pn_record.specs.Sets.{bytes_cmp}
use Rattle.pn_record.specs.Showing.{shown_field}
use Rattle.pn_scan.proofs.filter.field_value.Given as goal

abbrev pub invariant-loop-other : goal.invariant-loop-other
invariant-loop-other l = find bytes_cmp l.name (map shown_field (drop l.other-index l.fields)) ≡ find bytes_cmp l.name (map shown_field l.fields)
