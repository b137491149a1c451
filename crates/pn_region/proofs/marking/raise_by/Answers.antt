-- A position of a message is put in.
use Rattle.std.proofs.Common.{◌≡◌, true, [], ◌∷◌, refl, sym, subst}
use Rattle.std.proofs.lemmas.Bool.{and_from}
use Rattle.pn_join.specs.Marks.{Positions, is_position, are_positions}
use Rattle.pn_join.proofs.MarksFacts.{are_positions-raised_marks}
use Rattle.pn_region.proofs.marking.raise_by.Goals as goal

pub returns-clause-positions : goal.returns-clause-positions
returns-clause-positions g c =
    subst (λ (m : Positions). are_positions m ≡ true) (sym c.in_ok-raise_at.ensures.ok)
    (are_positions-raised_marks c.args.marks.now ((_, c.in-Some.last) ∷ []) c.requires (and_from (is_position c.in-Some.last) true c.in-Some.ensures.position refl))
