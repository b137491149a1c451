-- The keys so far are those of the texts.
use Rattle.std.proofs.Common.{◌≡◌, length, take}
use Rattle.std.specs.Prelude.{vec_len, vec_capacity}
use Rattle.pn_json.specs.Members.{texts}
use Rattle.pn_protocol.proofs.command.build.build_keys.Given as goal

abbrev pub invariant-loop-text : goal.invariant-loop-text
invariant-loop-text l = record {
  so_far : l.keys.items ≡ texts (take l.text-index l.from);
  count : vec_len l.keys ≡ l.text-index;
  capacity : vec_capacity l.keys ≡ length l.from;
}
