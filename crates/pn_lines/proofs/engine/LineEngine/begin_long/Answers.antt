-- The first bytes are dropped.
use Rattle.std.proofs.Common.{ap, ◌∙◌, arith}
use Rattle.pn_line.specs.declared.line_buffer.TheConstants.{MAX_KEPT_BYTES}
use Rattle.pn_lines.specs.Engines.{dropping}
use Rattle.pn_lines.proofs.Steps.{Takes-long}
use Rattle.pn_lines.proofs.engine.LineEngine.begin_long.Goals as goal

pub returns-clause-takes : goal.returns-clause-takes
returns-clause-takes g c =
    let M = g.M.LineHandler in
    Takes-long M.handling M.left g.met.M.LineHandler.steady.0 c.args.bytes.now c.args.is_last c.args._machine.now c.args.self.now c.set_stage.new.self c.cost_of.result c.requires.long.0 c.requires.long.1 c.requires.few
    (c.set_stage.ensures ∙ ap (dropping MAX_KEPT_BYTES) c.count_lines.ensures) (omega (arith, c.cost_of.ensures.enough)) (omega (arith, c.cost_of.ensures.few))
