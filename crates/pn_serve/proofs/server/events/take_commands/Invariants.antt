-- All commands so far were done.
use Rattle.std.proofs.Common.{◌≡◌, [], None}
use Rattle.pn_live.specs.LiveRegions.{tablets_in}
use Rattle.pn_serve.specs.declared.server.mailboxes.AtFault.TheVariants.{GoOn}
use Rattle.pn_serve.specs.Server.Events.{ToldAll}
use Rattle.pn_serve.proofs.server.events.take_commands.Given as goal

abbrev pub invariant-loop : goal.invariant-loop
invariant-loop g l = record {
  so_far : ToldAll GoOn [] None l.fn.live l.live;
  same : tablets_in l.live ≡ tablets_in l.fn.live;
}
