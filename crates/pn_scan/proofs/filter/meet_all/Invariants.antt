-- All are met where those that are left are.
use Rattle.std.proofs.Common.{◌≡◌, map}
use Rattle.pn_record.specs.Showing.{shown_field}
use Rattle.pn_scan.specs.Queries.{shown_condition, meets}
use Rattle.pn_scan.proofs.Conditions.{rest}
use Rattle.pn_scan.proofs.filter.meet_all.Given as goal

abbrev pub invariant-loop-condition : goal.invariant-loop-condition
invariant-loop-condition l = rest (meets (map shown_field l.fields)) shown_condition l.conditions l.condition-index ≡ rest (meets (map shown_field l.fields)) shown_condition l.conditions 0
