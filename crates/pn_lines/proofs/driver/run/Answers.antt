-- Before the first line nothing was read or written.
use Rattle.std.proofs.Common.{refl, ap, arith}
use Rattle.pn_lines.specs.Engines.{EngineValue}
use Rattle.pn_lines.proofs.Reading.{Reads-new}
use Rattle.pn_lines.proofs.driver.run.Goals as goal

pub lines-init : goal.lines-init
lines-init g c =
    let M = g.M.LineHandler in
    record {
      reads = Reads-new M.handling g.met.M.LineHandler.steady.0 c.args.machine.now (g.S.Source.left c.args.input.now) (g.W.Sink.contents c.args.output.now) c.args.replies.now.items c.args.engine.now c.requires.none c.requires.new;
      stage = ap (λ (r : EngineValue g.row.G.Denot). r.stage) c.requires.new;
      made = ap (λ (r : EngineValue g.row.G.Denot). r.left) c.requires.new;
      most = refl;
      few = omega (arith, ap (λ (r : EngineValue g.row.G.Denot). r.counts.lines) c.requires.new);
      polls = omega (arith, ap (λ (r : EngineValue g.row.G.Denot). r.counts.lines) c.requires.new);
      room = c.requires.capacity;
      grows = omega arith;
      kept = g.met.M.LineHandler.steady.1.stays c.args.machine.now;
    }
