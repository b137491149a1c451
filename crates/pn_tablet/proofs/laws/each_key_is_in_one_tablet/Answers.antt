-- The laws are lemmas.
use Rattle.pn_tablet.proofs.LayoutFacts.{key_in_tablet, tablet_of_within, tablet_of_key}
use Rattle.pn_tablet.proofs.laws.each_key_is_in_one_tablet.Goals as goal

pub returns-clause-there : goal.returns-clause-there
returns-clause-there c = λ bounds key lawful. key_in_tablet bounds key lawful.rising

pub returns-clause-within : goal.returns-clause-within
returns-clause-within c = tablet_of_within

pub returns-clause-nowhere_else : goal.returns-clause-nowhere_else
returns-clause-nowhere_else c = λ bounds key tablet lawful within lies. tablet_of_key bounds key tablet lawful.rising within lies
