-- The line says a command, or it was refused.
use Rattle.std.proofs.Common.{Err, ap}
use Rattle.pn_scan.specs.Paging.{Stays}
use Rattle.pn_serve.proofs.Lookups.{answers_said, answers_err}
use Rattle.pn_serve.proofs.sessions.lookups.answer_line.Goals as goal

pub returns-in-Ok-clause-answers : goal.returns-in-Ok-clause-answers
returns-in-Ok-clause-answers c = answers_said Stays _ _ c.args.line.now _ c.begin.result c.in-Ok.ensures.exact c.begin.ensures.begins

pub returns-in-Err-clause-answers : goal.returns-in-Err-clause-answers
returns-in-Err-clause-answers c = answers_err Stays _ c.args.line.now _ c.in-Err.ensures.exact (λ is. c.in-Err.ensures.memory (ap Err is))
