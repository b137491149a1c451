-- The law is a lemma.
use Rattle.pn_region.proofs.MarkLaws.{not_skipped}
use Rattle.pn_region.proofs.laws.no_position_is_skipped.Goals as goal

pub returns : goal.returns
returns c = not_skipped
