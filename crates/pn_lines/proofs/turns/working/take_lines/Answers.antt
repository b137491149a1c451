-- A call of the engine, and then perhaps a read.
use Rattle.std.proofs.Common.{◌≤◌, None, length, inl, arith}
use Rattle.pn_lines.specs.Turns.{held_in, at}
use Rattle.pn_lines.specs.declared.turns.working.TheConstants.{TURN_UNITS}
use Rattle.pn_lines.specs.declared.turns.working.Work.TheVariants.{Input}
use Rattle.pn_lines.proofs.Working.{Worked-joined, Worked-once}
use Rattle.pn_lines.proofs.turns.working.take_lines.Goals as goal

pub read_on-requires-clause-wants : goal.read_on-requires-clause-wants
read_on-requires-clause-wants g c = rw c.in-Input.is at (c.work_on-first.ensures.works None None).works

pub returns-in-Input-clause-works : goal.returns-in-Input-clause-works
returns-in-Input-clause-works g c = λ written.
    let M = g.M.LineHandler in
    let known = g.R.Input.remaining c.args.input.now in
    let first = c.work_on-first in
    Worked-joined M.handling M.left TURN_UNITS first.result.1 c.saturating_sub-rest.result (at known written c.args.machine.now (held_in c.args.engine.now c.args.buffers.now c.args.source.now))
    (at known written first.new.machine (held_in first.new.engine first.new.buffers c.args.source.now))
    (at (g.R.Input.remaining c.read_on.new.input) written c.read_on.new.machine (held_in c.read_on.new.engine c.read_on.new.buffers c.read_on.new.source)) first.result.0 c.read_on.result
    first.ensures.spent (omega (arith, c.saturating_sub-rest.ensures)) (first.ensures.works known written) (c.read_on.ensures.works written)

pub returns-in_default : goal.returns-in_default
returns-in_default g c =
    let M = g.M.LineHandler in
    let known = g.R.Input.remaining c.args.input.now in
    let first = c.work_on-first in
    record {
      works = λ written.
          Worked-once M.handling M.left TURN_UNITS first.result.1 (at known written c.args.machine.now (held_in c.args.engine.now c.args.buffers.now c.args.source.now))
          (at known written first.new.machine (held_in first.new.engine first.new.buffers c.args.source.now)) first.result.0 first.ensures.spent (first.ensures.works known written);
      few = omega (arith, first.ensures.less, c.requires.few);
      failed = λ failed. inl failed;
      kept = first.ensures.kept;
    }
