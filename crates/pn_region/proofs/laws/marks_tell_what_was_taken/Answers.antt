-- The laws are lemmas.
use Rattle.pn_region.proofs.Faith.{round_up_to}
use Rattle.pn_region.proofs.TakenImages.{new_has}
use Rattle.pn_region.proofs.laws.marks_tell_what_was_taken.Goals as goal

pub returns-clause-new : goal.returns-clause-new
returns-clause-new c broker bounds = new_has bounds

pub returns-clause-taken : goal.returns-clause-taken
returns-clause-taken c = round_up_to
