-- One key after another.
use Rattle.std.proofs.Common.{◌≤◌, length, ap, ⊎_elim, arith}
use Rattle.std.proofs.lemmas.Bool.{cases_lt}
use Rattle.pn_stay.specs.Unread.{quiet_in}
use Rattle.pn_stay.specs.Loops.{quiet_at}
use Rattle.pn_stay.proofs.Keys.{most_more, some_more, unread_past}
use Rattle.pn_stay.proofs.event_loop.unread.longest_quiet.Goals as goal

pub clients-preserved : goal.clients-preserved
clients-preserved c =
    let at = c.clients in
    let quiet = quiet_at c.args.connections.now in
    record {
      most = most_more quiet at.key at.longest c.quiet_of_client.result c.longer_of-longest.result c.longer_of-longest.ensures c.quiet_of_client.ensures
          at.invariant.most;
      some = some_more quiet at.key at.longest c.quiet_of_client.result c.longer_of-longest.result c.longer_of-longest.ensures c.quiet_of_client.ensures
          at.invariant.some;
    }

pub returns-clause-most : goal.returns-clause-most
returns-clause-most c = λ key.
    let connections = c.args.connections.now in
    ⊎_elim
    (λ below. c.clients.invariant.most key below)
    (λ past.
    let none : length connections.slots ≤ key = omega (arith, past, c.capacity-key-end.ensures.slots, c.capacity-key-end.ensures.value, c.clients-test.false) in
    omega (arith, ap quiet_in (unread_past connections key none)))
    (cases_lt key c.clients.key)
