-- The line of a mark, or the first after all marks.
use Rattle.std.proofs.Common.{rules, ◌≡◌, ℕ, ◌+◌, ◌^◌, ◌<◌, None, sym, ap, ◌∙◌, subst, arith}
use Rattle.std.proofs.lemmas.Option.{slice_get_within}
use Rattle.std.specs.List.{slice_get}
use Rattle.pn_tablet.specs.Copies.{TabletCopyValue}
use Rattle.pn_tablet.specs.CopyWriting.{IsCopyCursor, MakesLine}
use Rattle.pn_tablet.specs.declared.copy_text.CopyCursor.TheVariants.{Image, Mark}
use Rattle.pn_tablet.proofs.CopyMade.{first_content, mark_next, no_mark, same_line}
use Rattle.pn_tablet.proofs.copy_text.append_mark_at.Goals as goal

pub overflow_add-result : goal.overflow_add-result
overflow_add-result c =
    omega (arith, slice_get_within c.copy.inside.marks c.args.index (c.in-Some.name.now, c.in-Some.position.now) (sym c.in-Some.ensures.entry), c.recall_count.ensures)

pub append_image_at-requires-clause-cursor : goal.append_image_at-requires-clause-cursor
append_image_at-requires-clause-cursor c =
    let copy : TabletCopyValue = record { range = c.copy.inside.range; marks = c.copy.inside.marks; cells = c.copy.inside.cells } in
    subst (λ (of : TabletCopyValue). IsCopyCursor of (Image 0 0)) c.copy.view_is (first_content copy c.recall_table.ensures 0)

pub returns-in-Some : goal.returns-in-Some
returns-in-Some c =
    let copy : TabletCopyValue = record { range = c.copy.inside.range; marks = c.copy.inside.marks; cells = c.copy.inside.cells } in
    subst (λ (of : TabletCopyValue). MakesLine of (Mark c.args.index) c.args.out.now c.append_mark.new.out (Mark (c.args.index + 1))) c.copy.view_is
    (mark_next copy c.args.index c.in-Some.name.now c.in-Some.position.now _ c.args.out.now c.append_mark.new.out c.in-Some.ensures.entry c.append_mark.ensures.added c.append_mark.ensures.short (search rules))

pub returns-in-None : goal.returns-in-None
returns-in-None c =
    let none : slice_get c.args.copy.now.marks c.args.index ≡ None = ap (λ (of : TabletCopyValue). slice_get of.marks c.args.index) (sym c.copy.view_is) ∙ sym c.in-None.ensures.entry in
    same_line (no_mark c.args.copy.now c.args.index none) c.append_image_at.ensures
