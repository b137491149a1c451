-- Each step goes on from those before it.
use Rattle.std.proofs.Common.{◌-◌, ◌++◌, ℕ, List, length, take, drop, subst, sym, arith}
use Rattle.std.proofs.lemmas.List.{length-drop}
use Rattle.pn_lines.specs.Standing.{Stands}
use Rattle.pn_lines.proofs.Left.{Advances-more, Advances-none}
use Rattle.pn_lines.proofs.Steps.{Adds-more, Adds-none, Stands-none, Stands-on, Stands-waited, slice_rest}
use Rattle.pn_lines.proofs.engine.LineEngine.go_on.Goals as goal

pub steps-init : goal.steps-init
steps-init g c =
    let M = g.M.LineHandler in
    record {
      stands = λ start taken out is. Stands-none M.handling start taken c.args.bytes.now c.args.is_last (out ++ c.args.replies.now.items) c.args.machine.now c.args.self.now is;
      within = omega arith;
      adds = Adds-none c.args.replies.now;
      costs = record { counted = omega arith; few = omega arith };
      lines = omega arith;
      few = omega arith;
      advances = Advances-none M.left c.args.self.now;
      kept = g.met.M.LineHandler.steady.1.stays c.args.machine.now;
    }

pub steps-preserved : goal.steps-preserved
steps-preserved g c =
    let M = g.M.LineHandler in
    let was = c.steps.invariant in
    let step = c.in-Went.ensures in
    record {
      stands = λ start taken out is.
          Stands-on M.handling start taken c.args.bytes.now c.args.is_last (out ++ c.steps.replies.items) (out ++ c.step.new.replies.items) c.steps.machine c.step.new.machine c.steps.self c.step.new.self c.steps.taken c.in-Went.more
          (take (length c.args.bytes.now - c.steps.taken) (drop c.steps.taken c.args.bytes.now)) (slice_rest c.args.bytes.now c.steps.taken)
          (step.stands start (taken ++ take c.steps.taken c.args.bytes.now) out) (was.stands start taken out is);
      within = omega (arith, was.within, step.within, length-drop c.steps.taken c.args.bytes.now);
      adds = Adds-more c.args.replies.now c.steps.replies c.step.new.replies was.adds step.adds;
      costs = record { counted = omega (arith, was.costs.counted, step.costs.counted); few = omega (arith, step.costs.few) };
      lines = omega (arith, was.lines, step.lines, step.next);
      few = omega (arith, was.lines, step.lines);
      advances = Advances-more M.left c.steps.used c.in-Went.spent c.steps.taken c.in-Went.more c.args.self.now c.steps.self c.step.new.self step.next was.advances step.advances;
      kept = g.met.M.LineHandler.steady.1.goes_on c.args.machine.now c.steps.machine c.step.new.machine was.kept step.kept;
    }

pub returns-in-Waits-clause-stands : goal.returns-in-Waits-clause-stands
returns-in-Waits-clause-stands g c = λ start taken out is.
    let M = g.M.LineHandler in
    let before = taken ++ take c.steps.taken c.args.bytes.now in
    let ahead = drop c.steps.taken c.args.bytes.now in
    let same = slice_rest c.args.bytes.now c.steps.taken in
    let was = subst (λ (l : List ℕ). Stands M.handling start before (out ++ c.steps.replies.items) l c.args.is_last c.steps.machine c.steps.self) (sym same) (c.steps.invariant.stands start taken out is) in
    let now = c.in-Waits.ensures.stands start before out was in
    Stands-waited M.handling start before ahead c.args.is_last (out ++ c.step.new.replies.items) c.step.new.machine c.step.new.self
    (subst (λ (l : List ℕ). Stands M.handling start (before ++ take 0 l) (out ++ c.step.new.replies.items) (drop 0 l) c.args.is_last c.step.new.machine c.step.new.self) same now)
