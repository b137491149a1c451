-- All values are conditions, or not.
use Rattle.std.proofs.Common.{sym}
use Rattle.pn_scan.proofs.Conditions.{all_read, not_all_read}
use Rattle.pn_scan.proofs.unchecked_conditions.conditions_among.Goals as goal

pub returns-in_default-clause-exact : goal.returns-in_default-clause-exact
returns-in_default-clause-exact c = sym (not_all_read c.args.values.now (c.parse_conditions.ensures.none c.in_default.is))

pub returns-clause-exact : goal.returns-clause-exact
returns-clause-exact c = sym (all_read c.args.values.now c.in-Some.ensures.parsed.all)
