-- The first of what is left is the first of all.
use Rattle.std.proofs.Common.{◌≡◌}
use Rattle.serde_json.specs.View.{members_view}
use Rattle.pn_check.specs.Told.{first_flawed}
use Rattle.pn_check.proofs.told.first_flawed.Given as goal

abbrev pub invariant-loop-name : goal.invariant-loop-name
invariant-loop-name l =
    first_flawed l.flaw (members_view l.name-iterator) ≡ first_flawed l.flaw (members_view l.members.entries)
