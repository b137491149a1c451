-- Commands alone came, and the region has the tablets that it had.
use Rattle.std.proofs.Common.{◌≡◌}
use Rattle.pn_live.specs.LiveRegions.{tablets_in}
use Rattle.pn_serve.specs.Server.Events.{RunsCommands}
use Rattle.pn_stay.proofs.server.stopping.Stopping.await_ends.Given as goal

abbrev pub invariant-loop : goal.invariant-loop
invariant-loop g l = record { runs : RunsCommands l.fn.live l.live; same : tablets_in l.live ≡ tablets_in l.fn.live }
