-- The numbers are at their end.
use Rattle.pn_region.proofs.LogLaws.{over}
use Rattle.pn_region.proofs.read_laws.past_the_last_number_there_are_no_answers.Goals as goal

pub returns : goal.returns
returns c = over
