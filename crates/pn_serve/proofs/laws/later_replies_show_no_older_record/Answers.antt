-- The laws are lemmas.
use Rattle.pn_serve.specs.Session.Resuming.{KnowsNoLess}
use Rattle.pn_serve.proofs.Knowing.{moves_knows, lines_know, no_older}
use Rattle.pn_serve.proofs.laws.later_replies_show_no_older_record.Goals as goal

pub returns-clause-lines : goal.returns-clause-lines
returns-clause-lines c = lines_know KnowsNoLess moves_knows

pub returns-clause-reads : goal.returns-clause-reads
returns-clause-reads c = no_older
