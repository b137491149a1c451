-- Where the engine stood before the call it stands after each step, with what was taken and given; and all units are counted.
use Rattle.std.proofs.Common.{◌+◌, ◌-◌, ◌≤◌, ◌++◌, ℕ, List, drop, length, take}
use Rattle.pn_lines.specs.Giving.{Adds}
use Rattle.pn_lines.specs.Engines.{Advances, Costs}
use Rattle.pn_lines.specs.Standing.{Stands}
use Rattle.pn_lines.proofs.engine.LineEngine.go_on.Given as goal

abbrev pub invariant-steps : goal.invariant-steps
invariant-steps g l = record {
  stands : (start : g.row.M.Denot) (taken out : List ℕ) → Stands g.M.LineHandler.handling start taken (out ++ l.initial.replies.items) l.bytes l.is_last l.initial.machine l.initial.self
      → Stands g.M.LineHandler.handling start (taken ++ take l.taken l.bytes) (out ++ l.replies.items) (drop l.taken l.bytes) l.is_last l.machine l.self;
  within : l.taken ≤ length l.bytes;
  adds : Adds l.initial.replies l.replies;
  costs : Costs l.units l.used l.taken l.initial.replies l.replies;
  lines : l.self.counts.lines ≤ l.initial.self.counts.lines + l.used;
  few : l.self.counts.lines ≤ l.initial.self.counts.lines + l.units;
  advances : Advances g.M.LineHandler.left l.used l.taken l.initial.self l.self;
  kept : g.M.LineHandler.keeps l.initial.machine l.machine;
}

abbrev pub decreases-steps : goal.decreases-steps
decreases-steps g l = l.units - l.used
