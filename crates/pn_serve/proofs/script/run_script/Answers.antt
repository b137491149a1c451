-- A run from a new region on.
use Rattle.pn_serve.specs.Machine.Turns.{Answers, Concludes}
use Rattle.pn_serve.proofs.Ending.{run_ends}
use Rattle.pn_serve.proofs.Scripts.{as_script}
use Rattle.pn_serve.proofs.script.run_script.Goals as goal

pub returns-clause-ends : goal.returns-clause-ends
returns-clause-ends g c = as_script _ _ _ _ _ _ _ _ c.in-Ok.ensures (run_ends (λ machine. machine) Answers Concludes _ _ _ _ _ _ _ c.answer_lines-ended.ensures.ends)
