-- What was read is the copy that the text spells.
use Rattle.pn_json.proofs.LookUps.{right_same}
use Rattle.pn_tablet.proofs.CopyTextFacts.{text_again, answer_found}
use Rattle.pn_tablet.proofs.CopySteps.{pieces_of-last}
use Rattle.pn_tablet.proofs.copy_chunks.read_copy_by.Goals as goal

pub returns-clause-found : goal.returns-clause-found
returns-clause-found g c = answer_found c.args.text.now c.read_text.result c.read_text.ensures.exact

pub returns-clause-only : goal.returns-clause-only
returns-clause-only g c = λ copy is. right_same _ _ _ _ _ c.read_text.ensures.exact (text_again c.args.text.now copy is)

pub returns-clause-no_line : goal.returns-clause-no_line
returns-clause-no_line g c = λ unbroken. c.read_text.ensures.no_line (pieces_of-last c.args.text.now unbroken)
