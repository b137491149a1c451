-- Nothing was given on so far.
use Rattle.std.proofs.Common.{◌≡◌}
use Rattle.pn_stay.proofs.streams.message_input.MessageInput.take_stream.Given as goal

abbrev pub invariant-lines : goal.invariant-lines
invariant-lines g l = l.self.is_inside ≡ l.initial.self.is_inside
