-- Commands come after commands.
use Rattle.std.proofs.Common.{refl, ◌∙◌}
use Rattle.pn_serve.proofs.EventsRead.{more_commands, no_commands}
use Rattle.pn_stay.proofs.server.stopping.Stopping.await_ends.Goals as goal

pub loop-init : goal.loop-init
loop-init g c = record { runs = no_commands _ _ refl; same = refl }

pub loop-preserved : goal.loop-preserved
loop-preserved g c = record {
  runs = more_commands c.args.live.now c.loop.live c.take_commands_for.new.live c.loop.invariant.runs c.take_commands_for.ensures.runs;
  same = c.take_commands_for.ensures.same ∙ c.loop.invariant.same;
}
