-- The state found extends what was seen.
use Rattle.std.proofs.Common.{rules}
use Rattle.pn_live.specs.Orders.{IsLater}
use Rattle.pn_live.proofs.Prefixes.{begins_later}
use Rattle.pn_live.proofs.reader_handle.ReaderHandle.enter.Goals as goal

pub stay-requires-clause-begins : goal.stay-requires-clause-begins
stay-requires-clause-begins c =
    let handle = c.args.self in
    let later : IsLater handle.found.value c.in-Ok.now.value = search rules in
    begins_later handle.seen.value handle.found.value c.in-Ok.now.value handle.goes_on later

pub returns-in-Ok : goal.returns-in-Ok
returns-in-Ok c = record { answer = c.stay.ensures.answer }
