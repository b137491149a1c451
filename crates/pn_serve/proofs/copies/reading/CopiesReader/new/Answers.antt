-- Nothing was read yet.
use Rattle.std.proofs.Common.{◌∙◌, ap}
use Rattle.pn_serve.proofs.CopyReads.{new_read}
use Rattle.pn_serve.proofs.copies.reading.CopiesReader.new.Goals as goal

pub returns-clause-reads : goal.returns-clause-reads
returns-clause-reads g c = λ text is. new_read _ text _ (ap g.S.Source.left c.in_ok-texts.ensures.source ∙ is) c.in_ok-texts.ensures.next c.in_ok-copies.ensures.items
