-- What the mailboxes so far gave.
use Rattle.std.proofs.Common.{◌≡◌, ◌≤◌, ◌++◌, length, map, vec_len, vec_capacity}
use Rattle.std.specs.List.{All}
use Rattle.std.specs.Vec.Iter.{into_iter_items}
use Rattle.pn_serve.specs.Server.Messages.{FitRound}
use Rattle.pn_serve.specs.Server.Rounds.{IsInputOf, value_of, Continues}
use Rattle.pn_serve.specs.Server.Publishers.{IsSent}
use Rattle.pn_serve.proofs.server.rounds.gather.Given as goal

abbrev pub invariant-loop-stream : goal.invariant-loop-stream
invariant-loop-stream g l = record {
  gathered : IsInputOf (map (λ stream. stream.name) l.yielded) l.marks (value_of l.input) (map (λ stream. stream.name) l.mailboxes.streams.items);
  all : l.yielded ++ into_iter_items l.stream-iterator ≡ l.fn.mailboxes.streams.items;
  fit : All FitRound l.input.deliveries.items;
  continues : All (Continues l.marks) l.input.deliveries.items;
  sent : All (IsSent g.M.Sending.known g.M.Sending.sends) l.input.deliveries.items;
  few : vec_len l.input.deliveries ≤ length l.yielded;
  few_left : vec_len l.mailboxes.streams ≤ length l.yielded;
  capacity : vec_capacity l.input.deliveries ≡ length l.fn.mailboxes.streams.items;
  capacity_left : vec_capacity l.mailboxes.streams ≡ length l.fn.mailboxes.streams.items;
  at_fault : l.mailboxes.at_fault ≡ l.fn.mailboxes.at_fault;
}
