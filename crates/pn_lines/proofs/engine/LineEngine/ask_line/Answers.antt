-- The line is answered.
use Rattle.std.proofs.Common.{◌+◌, take, sym, arith}
use Rattle.std.proofs.lemmas.List.{length-take}
use Rattle.pn_line.proofs.LineLaws.{kept_bytes-short}
use Rattle.pn_lines.proofs.Steps.{Takes-line}
use Rattle.pn_lines.proofs.engine.LineEngine.ask_line.Goals as goal

pub returns-clause-takes : goal.returns-clause-takes
returns-clause-takes g c =
    let M = g.M.LineHandler in
    Takes-line M.handling M.left g.met.M.LineHandler.steady.0 c.args.bytes.now c.args.is_last c.args.machine.now c.args.self.now c.ask-units.new.machine c.ask-units.new.self c.args.at (c.cost_of.result + c.ask-units.result)
    c.requires.ended c.requires.short c.requires.few c.requires.made (rw c.count_lines.ensures at c.ask-units.ensures.asks (take c.args.at c.args.bytes.now) (sym (kept_bytes-short (take c.args.at c.args.bytes.now) (omega (arith, length-take c.args.at c.args.bytes.now, c.requires.short))))) (omega (arith, c.cost_of.ensures.enough)) (omega (arith, c.cost_of.ensures.least, c.ask-units.ensures.few, c.requires.short))
