-- A cell's contents are some.
use Rattle.std.proofs.Common.{subst}
use Rattle.pn_record.specs.Sets.{HasContents}
use Rattle.pn_record.specs.Laws.{some-set_of}
use Rattle.pn_record.proofs.cell.Cell.version.Goals as goal

pub returns-clause-some : goal.returns-clause-some
returns-clause-some c = subst HasContents c.self.view_is (some-set_of _ c.self.invariant)
