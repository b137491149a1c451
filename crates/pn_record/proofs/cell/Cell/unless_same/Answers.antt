-- Cells of one version and the same contents are the same.
use Rattle.std.proofs.Common.{◌≡◌, true, false, sym, ap, ◌∙◌}
use Rattle.std.specs.FinMap.{keys}
use Rattle.pn_record.specs.Sets.{CellValue, set_of}
use Rattle.pn_record.specs.Laws.{set_of-keys}
use Rattle.pn_record.proofs.cell.Cell.unless_same.Goals as goal

pub returns-then-are_same-clause-cell : goal.returns-then-are_same-clause-cell
returns-then-are_same-clause-cell c =
    let own = c.args.self.now in
    let other = c.args.other in
    let listed : keys own.1 ≡ keys other.1 = sym c.contents.ensures.contents ∙ c.are_same.ensures.0 c.if-are_same.true ∙ c.contents-2.ensures.contents in
    let contents : own.1 ≡ other.1 = sym (set_of-keys own.1) ∙ ap set_of listed ∙ set_of-keys other.1 in
    let version : own.0 ≡ other.0 = sym c.requires.version in
    λ i. (version i, contents i)

pub returns-clause-differs : goal.returns-clause-differs
returns-clause-differs c = λ is.
    let listed = c.contents.ensures.contents ∙ ap (λ (cell : CellValue). keys cell.1) (sym is) ∙ sym c.contents-2.ensures.contents in
    let never : true ≡ false = sym (c.are_same.ensures.1 listed) ∙ c.if-are_same.false in
    cc
