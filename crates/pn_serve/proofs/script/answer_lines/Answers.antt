-- A run ends as the engine for lines does.
use Rattle.std.proofs.Common.{subst, sym, ◌∙◌}
use Rattle.std.specs.Prelude.{Result, IfErr, IfOk, OnOk, ◌≢◌, ◌≤◌}
use Rattle.pn_serve.specs.Lines.{Flushes}
use Rattle.pn_serve.specs.declared.script.Counts.{Counts}
use Rattle.pn_serve.specs.declared.script.RunFault.{RunFault}
use Rattle.pn_serve.specs.declared.script.RunFault.TheVariants.{Memory}
use Rattle.pn_serve.specs.declared.script.TheConstants.{MAX_LINES}
use Rattle.pn_serve.proofs.Ending.{never_closed, run_begun, run_end, run_few, run_out, run_read, run_write}
use Rattle.pn_serve.proofs.script.answer_lines.Goals as goal

pub returns-clause-ends : goal.returns-clause-ends
returns-clause-ends g c = record { ended = c.answer_lines.result; has_ended = c.answer_lines.ensures.ends; unclosed = never_closed _ _ _ _ c.answer_lines.result c.answer_lines.ensures.can (c.requires.1 _); is = c.end_run.ensures }

pub returns-clause-faults : goal.returns-clause-faults
returns-clause-faults g c = (
  λ is. run_read _ _ _ _ c.answer_lines.result c.answer_lines.ensures.can (sym c.end_run.ensures ∙ is),
  λ is. run_write _ _ _ _ c.answer_lines.result c.answer_lines.ensures.can (sym c.end_run.ensures ∙ is),
)

pub returns-clause-few : goal.returns-clause-few
returns-clause-few g c = subst (λ (r : Result Counts RunFault). IfOk r (λ counts. counts.lines ≤ MAX_LINES)) (sym c.end_run.ensures) (run_few c.answer_lines.result c.answer_lines.ensures.few)

pub returns-clause-out : goal.returns-clause-out
returns-clause-out g c = subst (λ (r : Result Counts RunFault). Flushes r (g.W.Sink.is_flushed c.answer_lines.new.output)) (sym c.end_run.ensures) (run_out _ c.answer_lines.result c.answer_lines.ensures.out)

pub returns-clause-end : goal.returns-clause-end
returns-clause-end g c = subst (λ (r : Result Counts RunFault). OnOk r g.S.Source.may_end) (sym c.end_run.ensures) (run_end _ _ _ _ c.answer_lines.result c.answer_lines.ensures.can)

pub returns-clause-begun : goal.returns-clause-begun
returns-clause-begun g c = subst (λ (r : Result Counts RunFault). IfErr r (λ fault. fault ≢ Memory)) (sym c.end_run.ensures) (run_begun c.answer_lines.result)
