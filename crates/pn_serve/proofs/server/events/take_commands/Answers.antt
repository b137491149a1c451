-- More commands were done.
use Rattle.std.proofs.Common.{[], None, refl, ◌∙◌}
use Rattle.pn_serve.specs.declared.server.mailboxes.AtFault.TheVariants.{GoOn}
use Rattle.pn_serve.proofs.EventsRead.{none_told, told_then}
use Rattle.pn_serve.proofs.server.events.take_commands.Goals as goal

pub loop-init : goal.loop-init
loop-init g c = record { so_far = none_told GoOn [] None c.args.live.now; same = refl }

pub loop-preserved : goal.loop-preserved
loop-preserved g c = record {
  so_far = told_then GoOn [] None c.args.live.now c.loop.live c.obey_all.new.live c.loop.invariant.so_far (c.obey_all.ensures.told GoOn [] None);
  same = c.obey_all.ensures.same ∙ c.loop.invariant.same;
}

pub returns-in-Some-show_stop-clause-runs : goal.returns-in-Some-show_stop-clause-runs
returns-in-Some-show_stop-clause-runs g c = told_then GoOn [] None c.args.live.now c.loop.live c.obey_all.new.live c.loop.invariant.so_far (c.obey_all.ensures.told GoOn [] None)
