-- A line that is dropped is refused at its end.
use Rattle.std.proofs.Common.{arith}
use Rattle.std.proofs.lemmas.Grind.{common_steps}
use Rattle.pn_lines.proofs.Standing.{no_length}
use Rattle.pn_lines.proofs.Steps.{Takes-ended, Takes-refused}
use Rattle.pn_lines.proofs.engine.LineEngine.drop_line.Goals as goal

pub returns-in-Some-clause-takes : goal.returns-in-Some-clause-takes
returns-in-Some-clause-takes g c =
    let M = g.M.LineHandler in
    Takes-refused M.handling M.left g.met.M.LineHandler.steady.0 c.args.bytes.now c.args.is_last c.args.machine.now c.args.self.now c.refuse_long.new.machine c.refuse_long.new.self c.args.dropped c.min.result c.in-Some.at c.cost_of.result
    c.requires.some c.in-Some.ensures.some (omega (arith, c.min.ensures, c.min-most.ensures, c.saturating_sub.ensures)) c.requires.made c.refuse_long.ensures.refuses (omega (arith, c.cost_of.ensures.enough)) (omega (arith, c.cost_of.ensures.few))

pub returns-in-None-2-clause-takes : goal.returns-in-None-2-clause-takes
returns-in-None-2-clause-takes g c =
    let M = g.M.LineHandler in
    Takes-ended M.handling M.left g.met.M.LineHandler.steady.0 c.args.bytes.now c.args.is_last c.args.machine.now c.args.self.now c.refuse_long-in-None-2.new.machine c.refuse_long-in-None-2.new.self c.args.dropped
    c.requires.some (no_length c.args.bytes.now (grind (arith, common_steps))) c.if-is_last.true c.requires.made c.refuse_long-in-None-2.ensures.refuses
