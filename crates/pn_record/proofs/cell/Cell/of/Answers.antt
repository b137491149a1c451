-- The cell holds its one content.
use Rattle.std.proofs.Common.{◌≡◌, ◌∷◌, [], List, sym, ap, subst}
use Rattle.pn_record.specs.Showing.{held_contents}
use Rattle.pn_record.specs.Limits.{ContentValue}
use Rattle.pn_record.specs.Sets.{IsContents, set_of}
use Rattle.pn_record.specs.Laws.{set_of-one, some-set_of}
use Rattle.pn_record.proofs.cell.Cell.of.Goals as goal

module _ (c : goal.In_ok-new) where
  held : held_contents c.in_ok-new.field-0.value ≡ c.args.content ∷ []
  held = ap held_contents c.in_ok-new.ensures.ok

  one : IsContents (held_contents c.in_ok-new.field-0.value)
  one = subst IsContents (sym held) (set_of-one c.args.content)

pub invariant_of-result : goal.invariant_of-result
invariant_of-result c = one c

pub returns : goal.returns
returns c = (ap (λ (l : List ContentValue). (c.args.version, set_of l)) (held c), some-set_of _ (one c))
