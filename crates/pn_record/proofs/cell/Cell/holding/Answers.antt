-- The cell holds its one content.
use Rattle.std.proofs.Common.{◌≡◌, ◌∷◌, [], List, sym, ap, subst}
use Rattle.pn_record.specs.Showing.{held_contents}
use Rattle.pn_record.specs.Limits.{ContentValue}
use Rattle.pn_record.specs.Sets.{IsContents, set_of}
use Rattle.pn_record.specs.Laws.{set_of-one, some-set_of}
use Rattle.pn_record.proofs.cell.Cell.holding.Goals as goal

module _ (c : goal.In-Ok) where
  held : held_contents c.in-Ok.contents.value ≡ c.args.content ∷ []
  held = ap held_contents c.in-Ok.ensures.ok

  one : IsContents (held_contents c.in-Ok.contents.value)
  one = subst IsContents (sym held) (set_of-one c.args.content)

pub returns-in-Ok-clause-ok : goal.returns-in-Ok-clause-ok
returns-in-Ok-clause-ok c = (ap (λ (l : List ContentValue). (c.args.version, set_of l)) (held c), some-set_of _ (one c))
