use Rattle.pn_tablet.proofs.CopyPrefixes.{prefix_truncated, no_prefix}
use Rattle.pn_tablet.proofs.laws.no_part_of_a_copy_is_a_copy.Goals as goal

pub returns-clause-truncated : goal.returns-clause-truncated
returns-clause-truncated c = prefix_truncated

pub returns-clause-no_copy : goal.returns-clause-no_copy
returns-clause-no_copy c = no_prefix
