-- Fewer than two items, or more, are no two numbers.
use Rattle.std.proofs.Common.{◌≡◌, ◌<◌, ◌≤◌, List, [], ◌∷◌, length, None, refl, arith, sym}
use Rattle.serde_json.specs.View.{items_view}
use Rattle.serde_json.specs.declared.value.Value.{Value}
use Rattle.pn_record.specs.Grammar.{two_numbers}
use Rattle.pn_record.proofs.as_json.unchecked.pair_of.Goals as goal

too_few : (values : List Value) → length values < 2 → two_numbers (items_view values) ≡ None
too_few [] few = refl
too_few (a ∷ []) few = refl
too_few (a ∷ b ∷ rest) few = absurd (omega arith)

too_many : (values : List Value) → 3 ≤ length values → two_numbers (items_view values) ≡ None
too_many [] many = absurd (omega arith)
too_many (a ∷ []) many = absurd (omega arith)
too_many (a ∷ b ∷ []) many = absurd (omega arith)
too_many (a ∷ b ∷ c ∷ rest) many = refl

pub returns-in_default : goal.returns-in_default
returns-in_default c = sym (too_few c.args.items.now c.in_default.len_below)

pub returns-in_default-2 : goal.returns-in_default-2
returns-in_default-2 c = sym (too_many c.args.items.now c.in_default.len_at_least)
