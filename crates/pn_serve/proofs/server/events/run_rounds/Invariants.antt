-- All events so far went well; without control sessions they are of streams alone. What waits continues what was taken.
use Rattle.std.proofs.Common.{◌≡◌, map, None, IfSome}
use Rattle.std.specs.List.{All}
use Rattle.pn_live.specs.LiveRegions.{tablets_in}
use Rattle.pn_serve.specs.Server.Rounds.{Continues, waiting_value}
use Rattle.pn_serve.specs.Server.Publishers.{IsSent}
use Rattle.pn_serve.proofs.EventsRead.{DoesRounds, DoneSoFar}
use Rattle.pn_serve.proofs.server.events.run_rounds.Given as goal

abbrev pub invariant-loop : goal.invariant-loop
invariant-loop g l = record {
  so_far :
      DoneSoFar (IsSent g.M.Sending.known g.M.Sending.sends) l.fn.mailboxes.at_fault (map (λ stream. stream.name) l.fn.mailboxes.streams.items) l.fn.live (map (λ stream. stream.name) l.mailboxes.streams.items) (waiting_value l.waiting) l.live;
  alone : l.controls ≡ None
      → DoesRounds (IsSent g.M.Sending.known g.M.Sending.sends) l.fn.mailboxes.at_fault (map (λ stream. stream.name) l.fn.mailboxes.streams.items) None l.fn.live (map (λ stream. stream.name) l.mailboxes.streams.items) (waiting_value l.waiting) l.live;
  continues : IfSome l.waiting (λ input. All (Continues l.live.marks) input.deliveries.items);
  sent : IfSome l.waiting (λ input. All (IsSent g.M.Sending.known g.M.Sending.sends) input.deliveries.items);
  same : tablets_in l.live ≡ tablets_in l.fn.live;
  at_fault : l.mailboxes.at_fault ≡ l.fn.mailboxes.at_fault;
}
