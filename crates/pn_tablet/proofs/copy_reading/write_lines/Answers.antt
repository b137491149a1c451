-- The head, the marks, the images and the end are the whole text.
use Rattle.std.proofs.Common.{rules, arith, ◌≡◌, ℕ, ◌+◌, ◌<◌, ◌≤◌, ◌^◌, ◌∷◌, ◌++◌, [], length, IsUtf8, ap, sym, ◌∙◌, subst}
use Rattle.std.proofs.lemmas.Result.{IfOk-weaker}
use Rattle.pn_record.specs.Cells.{spell}
use Rattle.pn_tablet.specs.Copies.{TabletCopyValue}
use Rattle.pn_tablet.specs.CopyTexts.{head_data, IsHead, IsCopyText, lines_after_head}
use Rattle.pn_tablet.specs.CopyWriting.{IsWritten, WritesLines, copy_text, line_text}
use Rattle.pn_tablet.specs.Layouts.{Ends}
use Rattle.pn_tablet.specs.declared.copy.Form.{Form}
use Rattle.pn_tablet.specs.declared.copy_line.CopyLine.TheVariants.{End}
use Rattle.pn_tablet.proofs.CopyWritten.{head_of, parts_written, whole_spelled, marks_room, text_utf8}
use Rattle.pn_tablet.proofs.copy_reading.write_lines.Goals as goal

line_of : (range : Ends) (form other : Form) → form ≡ other → IsWritten IsHead (head_data (form, range)) (form, range) → IsWritten IsHead (head_data (other, range)) (other, range)
line_of range form other same = subst (λ (f : Form). IsWritten IsHead (head_data (f, range)) (f, range)) same

pub overflow_add-len : goal.overflow_add-len
overflow_add-len c =
    let short : length c.in_ok-cells.cells.items < 2 ^ 64 = search (rules, arith) in
    let marks : length c.copy.inside.marks ≤ length c.in_ok-marks.marks.items = marks_room _ _ _ c.in_ok-marks.ensures in
    omega (arith, short, marks, c.len.ensures.count, c.in_ok-cells.ensures.longer)

pub returns-clause-exact : goal.returns-clause-exact
returns-clause-exact c =
    let copy : TabletCopyValue = record { range = c.copy.inside.range; marks = c.copy.inside.marks; cells = c.copy.inside.cells } in
    let head = c.in_ok-head.ensures.written ∙ (λ i. c.new.ensures.items i ++ line_text (head_data (c.form_of-form.ensures i, copy.range))) in
    IfOk-weaker c.write_end.result _ _ (λ text line.
    (parts_written copy _ _ _ text.items head c.in_ok-marks.ensures c.in_ok-cells.ensures.written
    (subst (λ (n : ℕ). WritesLines c.in_ok-cells.cells.items text.items (End n ∷ [])) (λ i. c.len.ensures.count i + c.in_ok-cells.ensures.count i) line)).0 ∙ ap copy_text c.copy.view_is) c.write_end.ensures

pub returns-clause-text : goal.returns-clause-text
returns-clause-text c =
    let copy : TabletCopyValue = record { range = c.copy.inside.range; marks = c.copy.inside.marks; cells = c.copy.inside.cells } in
    let head = c.in_ok-head.ensures.written ∙ (λ i. c.new.ensures.items i ++ line_text (head_data (c.form_of-form.ensures i, copy.range))) in
    IfOk-weaker c.write_end.result _ _ (λ text line.
    let written = parts_written copy _ _ _ text.items head c.in_ok-marks.ensures c.in_ok-cells.ensures.written
    (subst (λ (n : ℕ). WritesLines c.in_ok-cells.cells.items text.items (End n ∷ [])) (λ i. c.len.ensures.count i + c.in_ok-cells.ensures.count i) line) in
    subst (IsCopyText text.items) c.copy.view_is
    (whole_spelled copy text.items written.0 (line_of copy.range c.form_of-form.result _ c.form_of-form.ensures c.in_ok-head.ensures.line) written.1 c.len.ensures.rising c.in_ok-cells.ensures.table c.copy.invariant.inside)) c.write_end.ensures

pub returns-clause-utf8 : goal.returns-clause-utf8
returns-clause-utf8 c =
    let copy : TabletCopyValue = record { range = c.copy.inside.range; marks = c.copy.inside.marks; cells = c.copy.inside.cells } in
    let head = c.in_ok-head.ensures.written ∙ (λ i. c.new.ensures.items i ++ line_text (head_data (c.form_of-form.ensures i, copy.range))) in
    IfOk-weaker c.write_end.result _ _ (λ text line.
    let written = parts_written copy _ _ _ text.items head c.in_ok-marks.ensures c.in_ok-cells.ensures.written
    (subst (λ (n : ℕ). WritesLines c.in_ok-cells.cells.items text.items (End n ∷ [])) (λ i. c.len.ensures.count i + c.in_ok-cells.ensures.count i) line) in
    subst IsUtf8 (sym written.0) (text_utf8 (head_of copy) (lines_after_head copy.marks (spell copy.cells)) (line_of copy.range c.form_of-form.result _ c.form_of-form.ensures c.in_ok-head.ensures.line) written.1)) c.write_end.ensures
