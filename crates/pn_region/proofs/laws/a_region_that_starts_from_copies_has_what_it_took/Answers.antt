-- The law is a lemma.
use Rattle.pn_region.proofs.Starting.{has_what_it_took}
use Rattle.pn_region.proofs.laws.a_region_that_starts_from_copies_has_what_it_took.Goals as goal

pub returns : goal.returns
returns c = λ broker copies bounds events started region starts honest lead more serve left.
    has_what_it_took broker copies bounds events started region starts honest lead more serve left
