-- The check ends as the engine for lines does.
use Rattle.std.proofs.Common.{Bool, sym, ap, ◌∙◌, subst}
use Rattle.std.specs.Prelude.{Result, IfOk, IfSome, OnOk}
use Rattle.pn_check.specs.Checking.{HasChecked, conclusion}
use Rattle.pn_check.specs.declared.input.CheckFault.{CheckFault}
use Rattle.pn_check.proofs.CheckedLines.{ends_checked, ends_endless, read_fails, told_out, write_fails}
use Rattle.pn_check.proofs.input.check.Goals as goal

pub returns-clause-told : goal.returns-clause-told
returns-clause-told g c =
    subst (λ (r : Result Bool CheckFault). IfOk r (λ is_taken. IfSome (g.S.Source.left c.args.input.now)
    (λ text. HasChecked text is_taken (g.W.Sink.contents c.args.output.now) (g.W.Sink.contents c.answer_lines-ended.new.output))))
    (sym (c.conclude.ensures ∙ ap (conclusion c.answer_lines-ended.result) c.is_spent.ensures))
    (ends_checked _ _ _ _ c.answer_lines-ended.result c.new-checker.ensures.lines c.answer_lines-ended.ensures.ends)

pub returns-clause-read : goal.returns-clause-read
returns-clause-read g c = λ is. read_fails _ _ _ _ c.answer_lines-ended.result c.is_spent.result c.answer_lines-ended.ensures.can (sym c.conclude.ensures ∙ is)

pub returns-clause-write : goal.returns-clause-write
returns-clause-write g c = λ is. write_fails _ _ _ _ c.answer_lines-ended.result c.is_spent.result c.answer_lines-ended.ensures.can (sym c.conclude.ensures ∙ is)

pub returns-clause-endless : goal.returns-clause-endless
returns-clause-endless g c = λ is. ends_endless _ _ _ _ c.answer_lines-ended.result c.is_spent.result c.answer_lines-ended.ensures.ends (sym c.conclude.ensures ∙ is)

pub returns-clause-out : goal.returns-clause-out
returns-clause-out g c =
    subst (λ (r : Result Bool CheckFault). OnOk r (g.W.Sink.is_flushed c.answer_lines-ended.new.output)) (sym c.conclude.ensures)
    (told_out _ c.answer_lines-ended.result c.is_spent.result c.answer_lines-ended.ensures.out)
