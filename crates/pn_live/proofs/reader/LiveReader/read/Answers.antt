-- The reader still reads the same tablets.
use Rattle.pn_live.proofs.Knowing.{looks_same}
use Rattle.pn_live.proofs.reader.LiveReader.read.Goals as goal

pub returns-clause-same : goal.returns-clause-same
returns-clause-same c = looks_same _ _ _ c.read_at_least.ensures.read.1.looked
