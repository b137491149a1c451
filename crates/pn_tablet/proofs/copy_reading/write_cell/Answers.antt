-- One content's line more, and at the end all.
use Rattle.std.proofs.Common.{ℕ, ◌∷◌, [], map, ap, ◌∙◌, subst}
use Rattle.std.proofs.lemmas.List.{take_all}
use Rattle.std.specs.FinMap.{keys}
use Rattle.pn_record.specs.Limits.{ContentValue}
use Rattle.pn_tablet.specs.CopyWriting.{WritesLines}
use Rattle.pn_tablet.specs.declared.copy_line.CopyLine.{CopyLine}
use Rattle.pn_tablet.specs.declared.copy_line.CopyLine.TheVariants.{Record}
use Rattle.pn_tablet.proofs.CopyWritten.{lines_none, one_line_more, cell_lines}
use Rattle.pn_tablet.proofs.copy_reading.write_cell.Goals as goal

pub loop-content-init : goal.loop-content-init
loop-content-init c = lines_none c.args.text.items

pub loop-content-preserved : goal.loop-content-preserved
loop-content-preserved c =
    one_line_more c.args.text.items c.loop-content.text.items c.in_ok-text.text.items
    (λ (shown : ContentValue). Record (record { key = c.args.key.now; version = c.args.cell.now.0; content = shown }))
    c.contents-contents.result.now c.loop-content.content-index c.content-item.result c.content-item.is c.loop-content-test.true c.loop-content.invariant
    (subst (λ (v : ℕ × ℕ). WritesLines c.loop-content.text.items c.in_ok-text.text.items (Record (record { key = c.args.key.now; version = v; content = c.content-item.result }) ∷ [])) c.version.ensures.version c.in_ok-text.ensures)

pub returns : goal.returns
returns c =
    let f : ContentValue → CopyLine = λ shown. Record (record { key = c.args.key.now; version = c.args.cell.now.0; content = shown }) in
    let all = take_all c.loop-content.content-index c.contents-contents.result.now c.loop-content-test.false ∙ c.contents-contents.ensures.contents in
    subst (WritesLines c.args.text.items c.loop-content.text.items) (ap (map f) all ∙ cell_lines c.args.key.now c.args.cell.now.0 (keys c.args.cell.now.1)) c.loop-content.invariant
