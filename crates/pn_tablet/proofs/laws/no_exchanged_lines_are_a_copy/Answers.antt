use Rattle.pn_tablet.proofs.CopyExchanges.{none_exchanged}
use Rattle.pn_tablet.proofs.laws.no_exchanged_lines_are_a_copy.Goals as goal

pub returns : goal.returns
returns c = none_exchanged
