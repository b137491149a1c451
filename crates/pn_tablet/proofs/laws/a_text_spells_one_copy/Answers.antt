use Rattle.pn_tablet.proofs.CopyPrefixes.{one_copy}
use Rattle.pn_tablet.proofs.laws.a_text_spells_one_copy.Goals as goal

pub returns : goal.returns
returns c = one_copy
