-- The laws are lemmas.
use Rattle.pn_region.proofs.RoundEnds.{round_not_older, half_not_older}
use Rattle.pn_region.proofs.laws.a_round_never_goes_back.Goals as goal

pub returns-clause-taken : goal.returns-clause-taken
returns-clause-taken c = round_not_older

pub returns-clause-half_taken : goal.returns-clause-half_taken
returns-clause-half_taken c = half_not_older
