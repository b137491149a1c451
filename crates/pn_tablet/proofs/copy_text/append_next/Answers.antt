-- The line of each cursor.
use Rattle.std.proofs.Common.{◌≡◌, sym, ap, ◌∙◌, subst}
use Rattle.pn_record.specs.Cells.{spell}
use Rattle.pn_tablet.specs.Copies.{TabletCopyValue}
use Rattle.pn_tablet.specs.CopyTexts.{head_data, form_of}
use Rattle.pn_tablet.specs.CopyWriting.{IsCopyCursor, MakesLine}
use Rattle.pn_tablet.specs.declared.copy_text.CopyCursor.{CopyCursor}
use Rattle.pn_tablet.specs.declared.copy_text.CopyCursor.TheVariants.{Head, Mark, Written}
use Rattle.pn_tablet.proofs.CopyMade.{head_rest, made_line, none_left}
use Rattle.pn_tablet.proofs.copy_text.append_next.Goals as goal

pub append_image_at-requires-clause-cursor : goal.append_image_at-requires-clause-cursor
append_image_at-requires-clause-cursor c = subst (IsCopyCursor c.args.copy.now) c.in-Image.is c.requires.cursor_is

pub returns-in-Head : goal.returns-in-Head
returns-in-Head c =
    let copy : TabletCopyValue = record { range = c.copy.inside.range; marks = c.copy.inside.marks; cells = c.copy.inside.cells } in
    let form : c.args.form ≡ form_of (spell copy.cells) = c.requires.form_is ∙ ap (λ (of : TabletCopyValue). form_of (spell of.cells)) (sym c.copy.view_is) in
    let made = subst (λ (of : TabletCopyValue). MakesLine of Head c.args.out.now c.append_head.new.out (Mark 0)) c.copy.view_is
    (made_line {copy = copy} {cursor = Head} {next = Mark 0} (head_data (c.args.form, copy.range)) c.append_head.ensures.added c.append_head.ensures.short (head_rest copy c.args.form form) tt) in
    subst (λ (cursor : CopyCursor). MakesLine c.args.copy.now cursor c.args.out.now c.append_head.new.out (Mark 0)) (sym c.in-Head.is) made

pub returns-in-Mark : goal.returns-in-Mark
returns-in-Mark c = subst (λ (cursor : CopyCursor). MakesLine c.args.copy.now cursor c.args.out.now c.append_mark_at.new.out c.append_mark_at.result) (sym c.in-Mark.is) c.append_mark_at.ensures

pub returns-in-Image : goal.returns-in-Image
returns-in-Image c = subst (λ (cursor : CopyCursor). MakesLine c.args.copy.now cursor c.args.out.now c.append_image_at.new.out c.append_image_at.result) (sym c.in-Image.is) c.append_image_at.ensures

pub returns-in-Written : goal.returns-in-Written
returns-in-Written c = subst (λ (cursor : CopyCursor). MakesLine c.args.copy.now cursor c.args.out.now c.args.out.now Written) (sym c.in-Written.is) (none_left c.args.copy.now c.args.out.now)
