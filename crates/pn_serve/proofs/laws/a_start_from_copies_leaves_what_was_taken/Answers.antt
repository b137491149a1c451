-- The law is a lemma.
use Rattle.pn_serve.proofs.EventsDone.{started_leaves}
use Rattle.pn_serve.proofs.laws.a_start_from_copies_leaves_what_was_taken.Goals as goal

pub returns : goal.returns
returns c = started_leaves
