-- Fewer than two parts, or more, are no such condition.
use Rattle.std.proofs.Common.{sym, rules}
use Rattle.pn_scan.proofs.Conditions.{lone_few, lone_many}
use Rattle.pn_scan.proofs.unchecked_conditions.lone_condition.Goals as goal
use Rattle.pn_scan.proofs.unchecked_conditions.lone_condition.Goals.{in_default-via-then-parts-lt2, in_default-via-else-parts-lt2+else-parts-lt3}

pub returns-in_default : goal.returns-in_default
returns-in_default c = elim c.in_default.branch [
  | in_default-via-then-parts-lt2 w ↦ sym (lone_few c.args.parts.now (search rules))
  | in_default-via-else-parts-lt2+else-parts-lt3 w ↦ sym (lone_many c.args.parts.now (search rules))
]
