-- The line of an image, or the end.
use Rattle.std.proofs.Common.{rules, ◌≡◌, ℕ, ◌+◌, ◌^◌, ◌<◌, ◌≤◌, List, get_or, length, sym, ap, ◌∙◌, subst, arith}
use Rattle.std.proofs.lemmas.Option.{slice_get_within}
use Rattle.std.specs.FinMap.{keys}
use Rattle.std.specs.List.{slice_get}
use Rattle.pn_json.specs.Tokens.{AppendsText}
use Rattle.pn_record.specs.Limits.{ContentValue}
use Rattle.pn_record.specs.Sets.{CellValue}
use Rattle.pn_record.specs.Writing.{image_data}
use Rattle.pn_tablet.specs.Copies.{TabletCopyValue}
use Rattle.pn_tablet.specs.CopyWriting.{IsCopyCursor, MakesLine, lines_of_copy, line_text}
use Rattle.pn_tablet.specs.declared.copy_text.CopyCursor.TheVariants.{Image, Written}
use Rattle.pn_tablet.specs.declared.copy_line_writing.TheConstants.{MAX_COPY_LINE_BYTES}
use Rattle.pn_tablet.proofs.CopyCounted.{copy_lines}
use Rattle.pn_tablet.proofs.CopyMade.{at_some, end_next, image_next}
use Rattle.pn_tablet.proofs.copy_text.append_image_at.Goals as goal

pub overflow_sub-count : goal.overflow_sub-count
overflow_sub-count c = omega (arith, c.requires.lines, copy_lines c.args.copy.now)

pub bounds-contents-content : goal.bounds-contents-content
bounds-contents-content c =
    let entry : List ℕ × CellValue = (c.in-Some.key.now, c.in-Some.cell.now) in
    let cursor = subst (λ (of : TabletCopyValue). IsCopyCursor of (Image c.args.index c.args.content)) (sym c.copy.view_is) c.requires.cursor in
    let within = at_some (λ (e : List ℕ × CellValue). c.args.content < length (keys e.1.1)) (slice_get c.copy.inside.cells c.args.index) entry (sym c.in-Some.ensures.entry) cursor in
    omega (arith, within, ap length c.contents-contents.ensures.contents)

pub next_cursor-requires-clause-index : goal.next_cursor-requires-clause-index
next_cursor-requires-clause-index c =
    omega (arith, slice_get_within c.copy.inside.cells c.args.index (c.in-Some.key.now, c.in-Some.cell.now) (sym c.in-Some.ensures.entry), c.recall_size.ensures)

pub returns-in-Some : goal.returns-in-Some
returns-in-Some c =
    let copy : TabletCopyValue = record { range = c.copy.inside.range; marks = c.copy.inside.marks; cells = c.copy.inside.cells } in
    let entry : List ℕ × CellValue = (c.in-Some.key.now, c.in-Some.cell.now) in
    let shown : ContentValue = c.index-contents-content.result in
    let cursor = subst (λ (of : TabletCopyValue). IsCopyCursor of (Image c.args.index c.args.content)) (sym c.copy.view_is) c.requires.cursor in
    let within = at_some (λ (e : List ℕ × CellValue). c.args.content < length (keys e.1.1)) (slice_get c.copy.inside.cells c.args.index) entry (sym c.in-Some.ensures.entry) cursor in
    let here : shown ≡ get_or (keys entry.1.1) c.args.content shown = c.index-contents-content.is ∙ ap (λ (l : List ContentValue). get_or l c.args.content shown) c.contents-contents.ensures.contents in
    let added = subst (λ (v : ℕ × ℕ). AppendsText c.args.out.now c.append_image_line.new.out (line_text (image_data (record { key = entry.0; version = v; content = shown })))) c.version.ensures.version c.append_image_line.ensures.added in
    let short = subst (λ (v : ℕ × ℕ). length (line_text (image_data (record { key = entry.0; version = v; content = shown }))) ≤ MAX_COPY_LINE_BYTES) c.version.ensures.version c.append_image_line.ensures.short in
    subst (λ (of : TabletCopyValue). MakesLine of (Image c.args.index c.args.content) c.args.out.now c.append_image_line.new.out c.next_cursor.result) c.copy.view_is
    (image_next copy c.args.index c.args.content (length c.contents-contents.result.now) entry shown c.next_cursor.result c.args.out.now c.append_image_line.new.out c.recall_table.ensures c.in-Some.ensures.entry here within added short
    (ap length c.contents-contents.ensures.contents) c.next_cursor.ensures)

pub returns-in-None : goal.returns-in-None
returns-in-None c =
    let copy : TabletCopyValue = record { range = c.copy.inside.range; marks = c.copy.inside.marks; cells = c.copy.inside.cells } in
    let lines : c.args.lines ≡ lines_of_copy copy = c.requires.lines ∙ ap lines_of_copy (sym c.copy.view_is) in
    subst (λ (of : TabletCopyValue). MakesLine of (Image c.args.index c.args.content) c.args.out.now c.append_end.new.out Written) c.copy.view_is
    (end_next copy c.args.index c.args.content c.args.lines _ c.args.out.now c.append_end.new.out c.in-None.ensures.entry lines (search rules) c.append_end.ensures.added c.append_end.ensures.short)
