-- Drafts of a live tablet's next state, attempts to publish states, one after another, and the book of them.
use Rattle.std.specs.Prelude.{◌≡◌, Option, None, Some, List, [], ◌∷◌, ◌++◌, fold, ℕ, ◌==◌, true, length, MatchBool}
use mathlib.Core.List.{IsPrefix}
use Rattle.logbook.specs.Pages.{Cell, Step, View, Book, Named}
use Rattle.pn_tablet.specs.Steps.{HasPositions, tablet_after}
use Rattle.pn_tablet.specs.Tablets.{TabletStateValue}
use Rattle.pn_tablet.specs.declared.state.TabletOp.{TabletOp}
use Rattle.pn_apply.specs.Applying.{IsJoinIn}
use Rattle.pn_live.specs.declared.attempt.Attempt.{Attempt}

-- Drafts of a live tablet's next state.

-- the operation is a join that the draft takes, and makes the published state of it
pub record Lacks (draft : TabletStateValue) (op : TabletOp) (shown : TabletStateValue) : Type 0 where
  pub join : IsJoinIn draft op
  pub positions : HasPositions op
  pub makes : tablet_after draft op ≡ shown

-- the operation is a join that the state takes
pub record TakesJoin (state : TabletStateValue) (op : TabletOp) : Type 0 where
  pub join : IsJoinIn state op
  pub positions : HasPositions op

-- a state after the join that it lacks, if it lacks one
abbrev pub caught_up : TabletStateValue → Option TabletOp → TabletStateValue
caught_up state None = state
caught_up state (Some join) = tablet_after state join

-- Attempts to publish a tablet's states, one after another. Each knows the list published before it, and the list that it tries.

module _ {O : Type 0} where
  -- the list published before the last attempt; `before` if there is no attempt
  abbrev pub settled_from : List O → List (Attempt O) → List O
  settled_from before attempts = fold (λ _ attempt. attempt.settled) before attempts

  -- the list that the last attempt tries; `before` if there is no attempt
  abbrev pub tried_from : List O → List (Attempt O) → List O
  tried_from before attempts = fold (λ _ attempt. attempt.tried) before attempts

  -- the list published before the last of all attempts; nothing is published before the first
  abbrev pub settled_of : List (Attempt O) → List O
  settled_of attempts = settled_from [] attempts

  -- the list that the last of all attempts tries
  abbrev pub tried_of : List (Attempt O) → List O
  tried_of attempts = tried_from [] attempts

  -- the attempt keeps what was settled, settles at most what was tried last, and tries what extends it
  pub record Follows (settled tried : List O) (attempt : Attempt O) : Type 0 where
    pub stays : IsPrefix settled attempt.settled
    pub was_tried : IsPrefix attempt.settled tried
    pub goes_on : IsPrefix attempt.settled attempt.tried

  -- each attempt follows the one before it
  abbrev pub Chained : List O → List O → List (Attempt O) → Type 0
  Chained settled tried [] = Unit {0}
  Chained settled tried (attempt ∷ others) = Follows settled tried attempt × Chained attempt.settled attempt.tried others

  -- the attempts of a tablet, from the first on
  abbrev pub AreLawful : List (Attempt O) → Type 0
  AreLawful attempts = Chained [] [] attempts

  -- the attempt may come next
  abbrev pub MayFollow : List (Attempt O) → Attempt O → Type 0
  MayFollow attempts attempt = Follows (settled_of attempts) (tried_of attempts) attempt

  -- the attempt to publish one operation more
  abbrev pub one_more : List (Attempt O) → O → Attempt O
  one_more attempts op = record { settled = settled_of attempts; tried = settled_of attempts ++ op ∷ [] }

  -- the attempt that settles what was tried last
  abbrev pub well_ended : List (Attempt O) → Attempt O
  well_ended attempts = record { settled = tried_of attempts; tried = tried_of attempts }

-- The book of a tablet's attempts.

-- the first word counts the attempts, which are lawful; the book's second word is not used
pub record IsKept {O : Type 0} (cells : List Cell) (attempts : List (Attempt O)) : Type 0 where
  pub words : cells ≡ (length attempts, true) ∷ (0, true) ∷ []
  pub lawful : AreLawful attempts

-- the word that counts the attempts
abbrev pub counter_of : Book → Named
counter_of book = record { tracked = true; key = 0; book = book }

-- the new attempt was added if the book had no more attempts than were seen; else all that it had are seen
abbrev pub Adds : {O : Type 0} → Step (Attempt O) → View (Attempt O) ℕ → ℕ → View (Attempt O) ℕ → Type 0
Adds step seen found now = MatchBool (found == step.old) (now.0 ≡ seen.0 ++ step.ask ∷ []) (found ≡ length now.0)
