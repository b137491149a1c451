-- The line of the cursor that the text is at.
use Rattle.std.proofs.Common.{ap, subst}
use Rattle.pn_json.specs.Tokens.{MakesPiece}
use Rattle.pn_tablet.specs.CopyWriting.{CopyTextValue, copy_rest}
use Rattle.pn_tablet.specs.declared.copy_line_writing.TheConstants.{MAX_COPY_LINE_BYTES}
use Rattle.pn_tablet.proofs.copy_text.CopyText.append_line.Goals as goal

pub invariant_of-self : goal.invariant_of-self
invariant_of-self c = (record { form_is = c.self.invariant.0.form_is; lines_are = c.self.invariant.0.lines_are; cursor_is = c.append_next-self-inside.ensures.cursor_is }, c.self.invariant.1)

pub returns-clause-line : goal.returns-clause-line
returns-clause-line c =
    subst (λ (text : CopyTextValue). MakesPiece MAX_COPY_LINE_BYTES text.left (copy_rest c.self.inside.copy c.append_next-self-inside.result) c.args.out.now c.append_next-self-inside.new.out) c.self.view_is c.append_next-self-inside.ensures.line

pub returns-clause-copy : goal.returns-clause-copy
returns-clause-copy c = ap (λ (text : CopyTextValue). text.copy) c.self.view_is
