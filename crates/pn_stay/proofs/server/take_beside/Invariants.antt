-- Readers are taken while there are more than threads.
use Rattle.std.proofs.Common.{◌≤◌, vec_len}
use Rattle.pn_live.specs.LiveRegions.{tablets_in}
use Rattle.pn_serve.specs.Server.Events.{AllRead}
use Rattle.pn_stay.proofs.server.take_beside.Given as goal

abbrev pub invariant-loop-readers : goal.invariant-loop-readers
invariant-loop-readers l = record {
  readers : AllRead (tablets_in l.live) l.readers.items;
  threads : l.threads ≤ vec_len l.readers;
}

abbrev pub decreases-loop-readers : goal.decreases-loop-readers
decreases-loop-readers l = vec_len l.readers
