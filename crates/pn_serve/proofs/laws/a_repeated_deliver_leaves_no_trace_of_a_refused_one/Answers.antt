-- The repeat makes the tablets that ran ahead those of the others.
use Rattle.pn_serve.proofs.RepeatScripts.{line_without}
use Rattle.pn_serve.proofs.laws.a_repeated_deliver_leaves_no_trace_of_a_refused_one.Goals as goal

pub returns-clause-region : goal.returns-clause-region
returns-clause-region c = λ told line deliveries more refused repeated. (line_without told line deliveries more refused repeated).region

pub returns-clause-mode : goal.returns-clause-mode
returns-clause-mode c = λ told line deliveries more refused repeated. (line_without told line deliveries more refused repeated).mode
