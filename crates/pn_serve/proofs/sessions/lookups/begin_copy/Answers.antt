-- A copy was taken, of which no line is counted.
use Rattle.std.proofs.Common.{length, refl, sym, ap, subst, arith}
use Rattle.pn_tablet.specs.Layouts.{Bounds}
use Rattle.pn_scan.specs.Paging.{Stays}
use Rattle.pn_protocol.specs.Command.Meaning.{copy}
use Rattle.pn_serve.specs.declared.sessions.pending_lookup.PendingLookup.{PendingLookup}
use Rattle.pn_serve.specs.Session.Resuming.{LooksOn}
use Rattle.pn_serve.proofs.sessions.lookups.begin_copy.Goals as goal

pub returns-in-Ok-clause-begins : goal.returns-in-Ok-clause-begins
returns-in-Ok-clause-begins c =
    let found = c.in-Ok.ensures.copy in
    subst (λ (pending : PendingLookup). LooksOn Stays c.args.reader.now (copy c.args.need.now c.args.tablet) c.copy.new.self pending) (sym c.copy-in-Ok.ensures.new)
    (record { within = omega (arith, ap (λ (b : Bounds). length b) c.layout.ensures); found = found.0; reached = c.copy.new.self; copied = found.1; moved = refl })
