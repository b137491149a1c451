-- The reader still reads the same tablets.
use Rattle.pn_live.proofs.Knowing.{all_looks_same}
use Rattle.pn_live.proofs.reader.LiveReader.scan.Goals as goal

pub returns-clause-same : goal.returns-clause-same
returns-clause-same c = all_looks_same c.page.ensures.scan.0 _ _ c.page.ensures.scan.1.looked
