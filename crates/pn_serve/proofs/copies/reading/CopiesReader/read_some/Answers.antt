-- The copies of the next texts were added, or the first fault of these stops.
use Rattle.std.proofs.Common.{◌≤◌, length, rules, sym}
use Rattle.pn_serve.proofs.CopyReads.{grows, passed_on, read_more, stopped}
use Rattle.pn_serve.proofs.copies.reading.CopiesReader.read_some.Goals as goal

pub returns-clause-reads : goal.returns-clause-reads
returns-clause-reads g c = rw (sym c.self.view_is) (λ text has.
    read_more _ text _ _ c.in_ok-some.some.items _ c.in_ok-some.ensures.cuts c.in_ok-read.ensures.read c.in_ok-add_copies.ensures.added has)

pub returns-clause-more : goal.returns-clause-more
returns-clause-more g c = rw (sym c.self.view_is) (λ is.
    let one : 1 ≤ length c.in_ok-some.some.items = search rules in
    grows c.in_ok-some.some.items _ _ _ one c.in_ok-read.ensures.read c.in_ok-add_copies.ensures.added)

pub returns-in_err-add_copies-clause-fault : goal.returns-in_err-add_copies-clause-fault
returns-in_err-add_copies-clause-fault g c =
    passed_on c.from_residual-in_err-add_copies.result c.in_err-add_copies.field-0.0 _ c.from_residual-in_err-add_copies.ensures.1 (rw (sym c.self.view_is) (λ text has.
    stopped _ _ text _ _ _ c.in_ok-some.some.items _ c.in_err-add_copies.field-0.0 c.in_ok-some.ensures.cuts c.in_ok-read.ensures.read c.in_err-add_copies.ensures.fault has))
