-- What is gathered is some, and where the contents are the same nothing is to be gathered.
use Rattle.std.proofs.Common.{◌<◌, List, length, sym, ◌∙◌, subst}
use Rattle.pn_record.specs.Showing.{held_contents}
use Rattle.pn_record.specs.Limits.{ContentValue}
use Rattle.pn_record.specs.Sets.{IsContents}
use Rattle.pn_record.specs.Laws.{some-set_of, same_contents}
use Rattle.pn_record.proofs.cell.Cell.add_contents.Goals as goal

pub returns-in_ok-self-inside-clause-some : goal.returns-in_ok-self-inside-clause-some
returns-in_ok-self-inside-clause-some c = (
  subst (λ (l : List ContentValue). 0 < length l) c.contents.ensures.contents c.contents.ensures.some,
  subst (λ (l : List ContentValue). 0 < length l) c.contents-2.ensures.contents c.contents-2.ensures.some,
  some-set_of _ (subst (λ held. IsContents (held_contents held)) (sym c.in_ok-self-inside.ensures.ok) c.in_ok-contents.ensures.contents),
)

pub returns-else-not-are_same-clause-ok : goal.returns-else-not-are_same-clause-ok
returns-else-not-are_same-clause-ok c =
    same_contents c.args.self.now c.args.other.now
    (sym c.contents.ensures.contents ∙ c.are_same.ensures.0 c.if-not-are_same.false ∙ c.contents-2.ensures.contents)
