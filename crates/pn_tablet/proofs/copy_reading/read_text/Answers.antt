-- The head comes first, and then the lines after it.
use Rattle.std.proofs.Common.{sym, ap, ◌∙◌}
use Rattle.pn_tablet.specs.CopyReading.{pieces_of, read_on}
use Rattle.pn_tablet.specs.Copies.{DraftValue}
use Rattle.pn_tablet.proofs.CopySteps.{two_pieces, copy_at-bad, copy_at-empty_draft, passed_on, same_right}
use Rattle.pn_tablet.proofs.copy_reading.read_text.Goals as goal

pub returns-in_err-form-clause-exact : goal.returns-in_err-form-clause-exact
returns-in_err-form-clause-exact c =
    passed_on c.from_residual.result _ c.in_err-form.field-0.0 c.from_residual.ensures.1 (λ other.
    copy_at-bad c.args.text.now c.in-Some.head.now c.in-Some.rest.now c.in-Some.ensures.0 c.in_err-form.field-0.0 (c.in_err-form.ensures other))

pub returns-clause-exact : goal.returns-clause-exact
returns-clause-exact c =
    same_right c.read_lines.result (read_on c.in_ok-form.form 2 c.new.result (pieces_of c.in-Some.rest.now)) _
    (sym (copy_at-empty_draft c.args.text.now c.in-Some.head.now c.in-Some.rest.now c.in-Some.ensures.0 (c.in_ok-form.form, c.in_ok-form.range) c.in_ok-form.ensures
    ∙ ap (λ (d : DraftValue). read_on c.in_ok-form.form 2 d (pieces_of c.in-Some.rest.now)) (sym c.new.ensures)))
    c.read_lines.ensures

pub returns-clause-no_line : goal.returns-clause-no_line
returns-clause-no_line c = λ one. absurd (two_pieces c.args.text.now c.in-Some.head.now c.in-Some.rest.now c.in-Some.ensures.0 one)

pub returns-in_err-form-clause-no_line : goal.returns-in_err-form-clause-no_line
returns-in_err-form-clause-no_line c = λ one. absurd (two_pieces c.args.text.now c.in-Some.head.now c.in-Some.rest.now c.in-Some.ensures.0 one)
