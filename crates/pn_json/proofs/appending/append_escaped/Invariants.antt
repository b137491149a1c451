-- The bytes before the index were added with their escapes.
use Rattle.std.proofs.Common.{◌≤◌, ◌-◌, drop, length}
use Rattle.json.specs.Print.{escape}
use Rattle.pn_json.proofs.AppendedTexts.{AppendsPart}
use Rattle.pn_json.proofs.appending.append_escaped.Given as goal

abbrev pub invariant-runs : goal.invariant-runs
invariant-runs l = record {
  within : l.from ≤ length l.bytes;
  added : AppendsPart l.initial.out l.out (escape (drop l.from l.bytes)) (escape l.bytes);
}

abbrev pub decreases-runs : goal.decreases-runs
decreases-runs l = length l.bytes - l.from
