use Rattle.pn_scan.proofs.SameConditions.{conditions_alone}
use Rattle.pn_scan.proofs.laws.conditions_are_read_of_their_json.Goals as goal

pub returns : goal.returns
returns c = conditions_alone
