-- Each socket so far has a connection, or was refused.
use Rattle.std.proofs.Common.{◌≡◌, ◌+◌, ◌≤◌, length}
use Rattle.slab.specs.Slab.{slab_len}
use Rattle.pn_stay.proofs.event_loop.EventLoop.add_all.Given as goal

abbrev pub invariant-sockets : goal.invariant-sockets
invariant-sockets l = record {
  all : slab_len l.self.connections + l.refused ≡ slab_len l.initial.self.connections + length l.yielded;
  few : l.refused ≤ length l.yielded;
}
