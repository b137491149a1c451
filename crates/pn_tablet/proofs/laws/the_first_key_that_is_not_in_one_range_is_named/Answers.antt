-- The laws are lemmas.
use Rattle.pn_tablet.proofs.CutFaults.{no_copy_has, two_copies_have}
use Rattle.pn_tablet.proofs.laws.the_first_key_that_is_not_in_one_range_is_named.Goals as goal

pub returns-clause-no_copy : goal.returns-clause-no_copy
returns-clause-no_copy c = no_copy_has

pub returns-clause-two_copies : goal.returns-clause-two_copies
returns-clause-two_copies c = two_copies_have
