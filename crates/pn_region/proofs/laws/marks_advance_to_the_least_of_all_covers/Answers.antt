-- The laws are lemmas.
use Rattle.std.proofs.Common.{sym, ap, subst}
use Rattle.pn_region.proofs.Common.{AllByRecursion, Reaches, TabletStateValue, RegionValue}
use Rattle.pn_region.proofs.Advanced.{advances, all_covered, least_of_region, marks_rise}
use Rattle.pn_region.proofs.laws.marks_advance_to_the_least_of_all_covers.Goals as goal

pub returns-clause-covered : goal.returns-clause-covered
returns-clause-covered c old new is = subst (λ (r : RegionValue). AllByRecursion (λ (t : TabletStateValue). Reaches t.cover r.marks) old.tablets) (sym (advances old new is)) (all_covered old.tablets)

pub returns-clause-least : goal.returns-clause-least
returns-clause-least c old new marks region is all = subst (λ (r : RegionValue). Reaches r.marks marks) (sym (advances old new is)) (least_of_region old marks region all)

pub returns-clause-before : goal.returns-clause-before
returns-clause-before c old new region is = subst (λ (r : RegionValue). Reaches r.marks old.marks) (sym (advances old new is)) (marks_rise old region)

pub returns-clause-rest : goal.returns-clause-rest
returns-clause-rest c old new is = (ap (λ (r : RegionValue). r.layout) (advances old new is), ap (λ (r : RegionValue). r.tablets) (advances old new is))
