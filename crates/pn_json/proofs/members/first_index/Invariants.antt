-- The name is among those that are left exactly where it is among all.
use Rattle.std.proofs.Common.{◌≡◌, drop}
use Rattle.std.specs.List.{list_any}
use Rattle.std.specs.Str.{bytes_eq}
use Rattle.pn_json.specs.Members.{texts}
use Rattle.pn_json.proofs.members.first_index.Given as goal

abbrev pub invariant-loop-index : goal.invariant-loop-index
invariant-loop-index l =
    list_any (bytes_eq l.name) (texts (drop l.index l.names)) ≡ list_any (bytes_eq l.name) (texts l.names)
