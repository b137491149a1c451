-- The laws are lemmas.
use Rattle.std.proofs.Common.{[], map, refl}
use Rattle.pn_region.proofs.Common.{empty_tablet, ranges}
use Rattle.pn_region.proofs.RoundSteps.{new_is}
use Rattle.pn_region.proofs.TakenImages.{new_has, new_between}
use Rattle.pn_region.proofs.laws.a_new_region_has_taken_nothing.Goals as goal

pub returns-clause-regions : goal.returns-clause-regions
returns-clause-regions c = λ bounds lawful. new_is bounds (map empty_tablet (ranges bounds)) [] lawful refl refl

pub returns-clause-images : goal.returns-clause-images
returns-clause-images c = new_has

pub returns-clause-between : goal.returns-clause-between
returns-clause-between c = new_between
