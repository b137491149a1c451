-- None of the contents so far meets the conditions, and what they count for is counted.
use Rattle.std.proofs.Common.{◌≡◌, ◌<◌, ◌≤◌, ◌⊎◌, ◌+◌, map, drop, max}
use Rattle.pn_scan.specs.Queries.{shown_condition}
use Rattle.pn_scan.specs.Shown.{contents_work, shows_from}
use Rattle.pn_scan.proofs.filter.look_at_contents.Given as goal

abbrev pub invariant-loop-index : goal.invariant-loop-index
invariant-loop-index l =
    let cs = map shown_condition l.conditions in
    record {
      same : shows_from cs l.index l.contents ≡ shows_from cs l.fn.from l.contents;
      counted : l.fn.done + contents_work cs (drop l.fn.from l.contents) ≡ l.now + contents_work cs (drop l.index l.contents);
      few : l.now ≤ max l.fn.most 386;
      since : l.fn.from ≤ l.index;
      further : (l.fn.from < l.index) ⊎ (l.now ≡ l.fn.done);
    }
