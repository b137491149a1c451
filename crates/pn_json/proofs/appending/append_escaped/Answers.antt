-- One run of plain bytes more, and the escape after it.
use Rattle.std.proofs.Common.{ℕ, ◌-◌, ◌≤◌, List, ◌++◌, drop, take, length, arith, ap, ◌∙◌}
use Rattle.pn_json.proofs.AppendedTexts.{part_more, part_all, to_stop, from_stop, none_after}
use Rattle.pn_json.proofs.appending.append_escaped.Goals as goal

pub returns-then-end-bytes : goal.returns-then-end-bytes
returns-then-end-bytes c =
    let bytes = c.args.bytes.now in
    let end = c.plain_end-end.result in
    let over : length bytes ≤ end = omega arith in
    part_all (part_more c.runs.invariant.added (to_stop bytes c.runs.from end c.plain_end-end.ensures.value ∙ ap (λ (l : List ℕ). take (end - c.runs.from) (drop c.runs.from bytes) ++ l) (none_after bytes end over)) c.append_slice.ensures)

pub runs-preserved : goal.runs-preserved
runs-preserved c =
    let bytes = c.args.bytes.now in
    let end = c.plain_end-end.result in
    let plain = part_more c.runs.invariant.added (to_stop bytes c.runs.from end c.plain_end-end.ensures.value) c.append_slice.ensures in
    record { within = omega arith; added = part_more plain (from_stop bytes end (omega arith)) c.append_escape.ensures }
