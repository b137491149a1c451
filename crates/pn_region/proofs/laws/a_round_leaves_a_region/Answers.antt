-- The laws are lemmas.
use Rattle.std.proofs.Common.{refl}
use Rattle.pn_region.proofs.Common.{all_stepped, joins}
use Rattle.pn_region.proofs.RoundEnds.{half_taken_is, new_region_is}
use Rattle.pn_region.proofs.laws.a_round_leaves_a_region.Goals as goal

pub returns-clause-taken : goal.returns-clause-taken
returns-clause-taken c = λ region deliveries marks is. new_region_is region deliveries is marks (all_stepped region.tablets (joins region deliveries marks)) refl

pub returns-clause-half_taken : goal.returns-clause-half_taken
returns-clause-half_taken c = half_taken_is
