-- The laws are lemmas.
use Rattle.pn_tablet.proofs.CutRanges.{is_layout, cut_keys}
use Rattle.pn_tablet.proofs.laws.ranges_that_cut_all_keys_are_a_layout.Goals as goal

pub returns-clause-layout : goal.returns-clause-layout
returns-clause-layout c = is_layout

pub returns-clause-keys : goal.returns-clause-keys
returns-clause-keys c = cut_keys
