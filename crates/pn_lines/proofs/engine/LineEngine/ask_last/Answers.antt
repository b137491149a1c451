-- The last part is answered, and counts for a line if it has a byte.
use Rattle.std.proofs.Common.{ℕ, ◌+◌, sym, ap, ◌∙◌, arith}
use Rattle.pn_line.proofs.LineLaws.{kept_bytes-short}
use Rattle.pn_lines.specs.Engines.{with_lines}
use Rattle.pn_lines.proofs.Steps.{Takes-last, last_counts}
use Rattle.pn_lines.proofs.engine.LineEngine.ask_last.Goals as goal

pub count_lines-requires : goal.count_lines-requires
count_lines-requires g c =
    let M = g.M.LineHandler in
    omega (arith, c.count_of.ensures, last_counts M.handling M.left g.met.M.LineHandler.steady.0 c.args.bytes.now c.args.is_last c.args.machine.now c.args.self.now c.args.bytes.now c.requires.few)

pub returns-clause-takes : goal.returns-clause-takes
returns-clause-takes g c =
    let M = g.M.LineHandler in
    let count = c.count_lines.ensures ∙ ap (λ (n : ℕ). with_lines n c.args.self.now) c.count_of.ensures in
    Takes-last M.handling M.left g.met.M.LineHandler.steady.0 c.args.bytes.now c.args.is_last c.args.machine.now c.args.self.now c.ask-units.new.machine c.ask-units.new.self (c.cost_of.result + c.ask-units.result)
    c.requires.last c.requires.unbroken c.requires.short c.requires.few c.requires.made (rw count at c.ask-units.ensures.asks c.args.bytes.now (sym (kept_bytes-short c.args.bytes.now c.requires.short))) (omega (arith, c.cost_of.ensures.enough)) (omega (arith, c.cost_of.ensures.enough)) (omega (arith, c.cost_of.ensures.least, c.ask-units.ensures.few, c.requires.short))
