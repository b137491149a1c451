-- The laws are lemmas.
use Rattle.pn_region.proofs.Starting.{later_images, later_alike, started_none}
use Rattle.pn_region.proofs.laws.a_start_from_copies_is_as_good_as_whole_streams.Goals as goal

pub returns-clause-ahead : goal.returns-clause-ahead
returns-clause-ahead c = started_none

pub returns-clause-images : goal.returns-clause-images
returns-clause-images c = λ broker copies bounds events started region starts honest ahead are lead more.
    later_images broker copies bounds events started region starts honest lead more ahead are

pub returns-clause-alike : goal.returns-clause-alike
returns-clause-alike c = λ broker copies bounds others events taken started region other starts honest ahead are lead more lawful are_too lead_too honest_too reach reach_too.
    later_alike broker copies bounds events started region starts honest lead more ahead are others taken other lawful are_too lead_too honest_too reach reach_too
