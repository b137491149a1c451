-- The names so far rise.
use Rattle.std.proofs.Common.{◌≡◌, true, map, take}
use Rattle.pn_record.specs.Limits.{names_rise}
use Rattle.pn_record.specs.Showing.{shown_field}
use Rattle.pn_record.proofs.content.names_rise.Given as goal

abbrev pub invariant-loop-i : goal.invariant-loop-i
invariant-loop-i l = names_rise (take l.i (map shown_field l.fields)) ≡ true
