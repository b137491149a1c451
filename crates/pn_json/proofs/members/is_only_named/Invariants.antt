-- What is left has known names alone exactly where all has.
use Rattle.std.proofs.Common.{◌≡◌}
use Rattle.serde_json.specs.View.{members_view}
use Rattle.pn_json.specs.Members.{texts, only_named}
use Rattle.pn_json.proofs.members.is_only_named.Given as goal

abbrev pub invariant-loop-name : goal.invariant-loop-name
invariant-loop-name l =
    only_named (texts l.names) (members_view l.name-iterator) ≡ only_named (texts l.names) (members_view l.members.entries)
