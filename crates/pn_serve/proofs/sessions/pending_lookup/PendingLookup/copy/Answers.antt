-- The records of a copy can be counted.
use Rattle.std.proofs.Common.{ap, length, arith}
use Rattle.pn_tablet.specs.Copies.{TabletCopyValue}
use Rattle.pn_tablet.specs.CopyWriting.{CopyCountValue}
use Rattle.pn_serve.proofs.sessions.pending_lookup.PendingLookup.copy.Goals as goal

pub returns-clause-bounded : goal.returns-clause-bounded
returns-clause-bounded c =
    omega (arith, c.recall_records.ensures, ap (λ (t : TabletCopyValue). length t.cells) c.copy.view_is, ap (λ (k : CopyCountValue). length k.copy.cells) c.new.ensures)
