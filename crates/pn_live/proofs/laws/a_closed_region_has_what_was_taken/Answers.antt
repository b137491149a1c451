-- The laws are lemmas.
use Rattle.pn_live.proofs.Events.{honest_calls, round_calls}
use Rattle.pn_live.proofs.laws.a_closed_region_has_what_was_taken.Goals as goal

pub returns-clause-honest : goal.returns-clause-honest
returns-clause-honest c = honest_calls

pub returns-clause-rounds : goal.returns-clause-rounds
returns-clause-rounds c = round_calls
