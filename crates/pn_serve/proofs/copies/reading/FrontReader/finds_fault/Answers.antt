-- A front that is at fault is one of the text.
use Rattle.pn_serve.proofs.CopyCuts.{front_faulty}
use Rattle.pn_serve.proofs.copies.reading.FrontReader.finds_fault.Goals as goal

pub returns-clause-faulty : goal.returns-clause-faulty
returns-clause-faulty g c = front_faulty c.args.text.now _ _ c.has_faulty_line.ensures
