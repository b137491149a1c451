-- Each reader waits or was given to a thread, and the lists have memory for all of them.
use Rattle.std.proofs.Common.{◌≡◌, ◌+◌, ◌≤◌, vec_len, vec_capacity, All}
use Rattle.pn_live.specs.LiveRegions.{tablets_in}
use Rattle.pn_live.specs.Readers.{tablets_of}
use Rattle.pn_serve.specs.Server.Events.{AllRead}
use Rattle.pn_stay.proofs.server.threads.start_threads.Given as goal

abbrev pub invariant-loop-reader : goal.invariant-loop-reader
invariant-loop-reader g l = record {
  running : All (λ session. tablets_of session.promise.0.value ≡ tablets_in l.live) l.running.items;
  readers : AllRead (tablets_in l.live) l.readers.items;
  all : vec_len l.running + vec_len l.readers ≡ vec_len l.initial.readers;
  capacity : vec_capacity l.running ≡ vec_len l.initial.readers;
  back : vec_len l.initial.readers ≤ vec_capacity l.readers;
}

abbrev pub decreases-loop-reader : goal.decreases-loop-reader
decreases-loop-reader g l = vec_len l.readers
