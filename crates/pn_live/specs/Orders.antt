-- The rule of a live tablet's pair.
use Rattle.std.specs.Prelude.{◌≡◌, ℕ, List, Option, Some, IfSome}
use mathlib.Core.Option.{some}
use mathlib.Core.List.{IsPrefix}
use lib.ListN.{get_elem?}
use Rattle.pn_tablet.specs.declared.state.TabletOp.{TabletOp}
use Rattle.pn_live.specs.declared.published_state.PublishedState.{PublishedState}
use Rattle.pn_live.specs.Attempts.{tried_of}

-- the operations that lead to the state
abbrev pub list_of : PublishedState → List TabletOp
list_of shown = tried_of shown.position.seen.log

-- both are of one tablet, and the second's list extends the first's
pub record IsLater (first second : PublishedState) : Type 0 where
  pub book : second.position.seen.book ≡ first.position.seen.book
  pub range : second.state.range ≡ first.state.range
  pub begins : IsPrefix (list_of first) (list_of second)

-- what is published extends all that anyone saw
abbrev pub AllBefore : PublishedState → List (Option PublishedState) → Type 0
AllBefore shown views = (index : ℕ) (seen : PublishedState) → get_elem? views index ≡ some (Some seen) → IsLater seen shown

-- what is seen afterwards is what is published, which extends what was seen before
abbrev pub GoesOn : Option PublishedState → PublishedState → PublishedState → Option PublishedState → Type 0
GoesOn before old new after = IfSome before (λ seen. IsLater seen new) × (after ≡ Some new)
