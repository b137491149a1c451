-- The word counts the attempts of the book that was opened.
use Rattle.pn_live.proofs.live_tablet.LiveTablet.open.Goals as goal

pub invariant_of-result-clause-counter_is : goal.invariant_of-result-clause-counter_is
invariant_of-result-clause-counter_is g c = c.open_book-counter.ensures.counter
