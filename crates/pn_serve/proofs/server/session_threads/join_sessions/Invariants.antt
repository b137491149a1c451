-- Each reader came back or is still with its session, and there is capacity for all of them.
use Rattle.std.proofs.Common.{◌≡◌, ◌+◌, ◌≤◌, vec_len, vec_capacity, All}
use Rattle.pn_live.specs.LiveRegions.{tablets_in}
use Rattle.pn_live.specs.Readers.{tablets_of}
use Rattle.pn_serve.specs.Server.Events.{AllRead}
use Rattle.pn_serve.proofs.server.session_threads.join_sessions.Given as goal

abbrev pub invariant-loop-session : goal.invariant-loop-session
invariant-loop-session g l = record {
  running : All (λ session. tablets_of session.promise.0.value ≡ tablets_in l.live) l.running.items;
  readers : AllRead (tablets_in l.live) l.readers.items;
  all : vec_len l.running + vec_len l.readers ≡ vec_len l.initial.running + vec_len l.initial.readers;
  capacity : vec_len l.running + vec_len l.readers ≤ vec_capacity l.readers;
}

abbrev pub decreases-loop-session : goal.decreases-loop-session
decreases-loop-session g l = vec_len l.running
