-- What may become of the reader of an event loop twice may become of it once.
use Rattle.std.specs.Prelude.{ℕ, List}
use Rattle.pn_lines.specs.Handling.{Answers, GivesUp, IsPreorder, Replied}
use Rattle.pn_lines.specs.declared.handler.EndedBy.{EndedBy}
use Rattle.pn_live.specs.Readers.{LiveReaderValue}
use Rattle.pn_serve.specs.Proofs.{knows_on, knows_steadily}
use Rattle.pn_serve.specs.Session.Resuming.{KnowsNoLess}
use Rattle.pn_serve.specs.declared.sessions.pending_lookup.PendingLookup.{PendingLookup}
use Rattle.pn_stay.specs.Looks.{IsLookedUp, bounded_reads}
use Rattle.pn_stay.specs.declared.bounded_reader.BoundedLookup.TheVariants.{PutOff, Under}

-- a line that is looked up so far has a reply where that is given up
replied : (was between now : LiveReaderValue) (ended : EndedBy) (line : List ℕ) (look : PendingLookup) → IsLookedUp was ended line between look
    → KnowsNoLess between now
    → (reply : Replied) × Answers bounded_reads was ended line now reply
replied was between now ended line look so_far moved =
    let up = so_far.goes.gives_up now moved in
    (up.0, record { between = so_far.begun; moved = so_far.moved; answered = record { between = up.1.0; moved = up.1.1; answered = up.1.2 } })

given_up : GivesUp bounded_reads
given_up was between now ended line (Under look kept) so_far moved = replied was between now ended line look so_far.1 moved
given_up was between now ended line (PutOff kept weight waits) so_far moved =
    let (reached, look, looked, after) = so_far.2 in
    replied was reached now ended line look looked (knows_on reached between now after moved)

pub reads_steadily : IsPreorder KnowsNoLess × IsPreorder KnowsNoLess × GivesUp bounded_reads
reads_steadily = (knows_steadily, knows_steadily, given_up)
