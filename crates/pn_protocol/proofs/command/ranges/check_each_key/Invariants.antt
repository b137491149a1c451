-- The rest has the same first fault as all.
use Rattle.std.proofs.Common.{◌≡◌, drop}
use Rattle.pn_json.specs.Members.{texts}
use Rattle.pn_protocol.specs.Command.Checks.{each_fits, key_fits}
use Rattle.pn_protocol.proofs.command.ranges.check_each_key.Given as goal

abbrev pub invariant-loop-key : goal.invariant-loop-key
invariant-loop-key l = each_fits (key_fits l.member_name) (texts l.keys) ≡ each_fits (key_fits l.member_name) (texts (drop l.key-index l.keys))
