-- A cell with a number decides; without any, none is left at the end.
use Rattle.std.proofs.Common.{rules, ◌≡◌, ◌∷◌, ◌||◌, true, false, cond, List, ℕ, sym, ap, ◌∙◌}
use Rattle.std.specs.FinMap.{keys}
use Rattle.std.specs.List.{list_any}
use Rattle.pn_record.specs.Cells.{spell, Entries}
use Rattle.pn_record.specs.Showing.{holds_number}
use Rattle.pn_record.specs.Sets.{CellValue}
use Rattle.pn_tablet.specs.declared.copy.Form.TheVariants.{Texts, Numbers}
use Rattle.pn_tablet.proofs.CopyLineCounts.{holds, cell_holds}
use Rattle.pn_tablet.proofs.copy.form_of.Goals as goal

pub returns-then-holds_number : goal.returns-then-holds_number
returns-then-holds_number c =
    let e : List ℕ × CellValue = (c.in-Some._key.now, c.in-Some.cell.now) in
    let es : Entries = c.next.new.self in
    let left : c.loop-key._key-iterator ≡ e ∷ es = search rules in
    let here : list_any holds_number (keys e.1.1) ≡ true = sym c.holds_number.ensures ∙ c.if-holds_number.true in
    let all : list_any holds (spell c.args.cells.now) ≡ true =
    sym c.loop-key.invariant ∙ ap (λ (l : Entries). list_any holds (spell l)) left ∙ cell_holds e es ∙ ap (λ b. b || list_any holds (spell es)) here in
    ap (λ b. cond b Numbers Texts) (sym all)

pub loop-key-preserved : goal.loop-key-preserved
loop-key-preserved c =
    let e : List ℕ × CellValue = (c.in-Some._key.now, c.in-Some.cell.now) in
    let es : Entries = c.next.new.self in
    let left : c.loop-key._key-iterator ≡ e ∷ es = search rules in
    let none : list_any holds_number (keys e.1.1) ≡ false = sym c.holds_number.ensures ∙ c.if-holds_number.false in
    ap (λ b. b || list_any holds (spell es)) (sym none) ∙ sym (cell_holds e es) ∙ ap (λ (l : Entries). list_any holds (spell l)) (sym left) ∙ c.loop-key.invariant
