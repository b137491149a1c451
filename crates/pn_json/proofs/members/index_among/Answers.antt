-- A text found where it was expected is among all.
use Rattle.std.proofs.Common.{rules, sym}
use Rattle.pn_json.proofs.LookUps.{found_among}
use Rattle.pn_json.proofs.members.index_among.Goals as goal

pub returns-in-Some : goal.returns-in-Some
returns-in-Some c =
    sym (found_among c.args.name.now c.args.names.now c.args.expected c.in-Some.other.now (search rules) (search rules) (search rules))
