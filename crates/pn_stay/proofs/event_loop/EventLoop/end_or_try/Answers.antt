-- A client that is ended is not there, and the others are as they were.
use Rattle.std.proofs.Common.{ap}
use Rattle.pn_stay.specs.Loops.{unread_in}
use Rattle.pn_stay.proofs.event_loop.EventLoop.end_or_try.Goals as goal

pub returns-then-is_deaf-clause-deaf : goal.returns-then-is_deaf-clause-deaf
returns-then-is_deaf-clause-deaf g c = λ _. ap unread_in c.end_client.ensures.changed

pub returns-then-is_deaf-clause-others : goal.returns-then-is_deaf-clause-others
returns-then-is_deaf-clause-others g c = λ other differs. ap unread_in (c.end_client.ensures.others other differs)
