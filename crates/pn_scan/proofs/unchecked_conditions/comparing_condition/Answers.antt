-- Fewer than three parts, or more, are no such condition.
use Rattle.std.proofs.Common.{sym, rules}
use Rattle.pn_scan.proofs.Conditions.{comparing_few, comparing_many}
use Rattle.pn_scan.proofs.unchecked_conditions.comparing_condition.Goals as goal
use Rattle.pn_scan.proofs.unchecked_conditions.comparing_condition.Goals.{in_default-via-then-parts-lt3, in_default-via-else-parts-lt3+else-parts-lt4}

pub returns-in_default : goal.returns-in_default
returns-in_default c = elim c.in_default.branch [
  | in_default-via-then-parts-lt3 w ↦ sym (comparing_few c.args.parts.now (search rules))
  | in_default-via-else-parts-lt3+else-parts-lt4 w ↦ sym (comparing_many c.args.parts.now (search rules))
]
