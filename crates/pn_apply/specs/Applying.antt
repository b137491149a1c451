-- Operations on several tablets, each on its own, and work in consecutive tablets.
use Rattle.std.specs.Prelude.{◌≡◌, ℕ, List, [], ◌∷◌, map, get_or, IsTrue, ◌⊎◌, ◌+◌, ◌≤◌, ◌<◌, ◌^◌, Result, IfOk, OnOk, OnErr, Vec}
use Rattle.std.specs.List.{AllByRecursion, zip}
use Rattle.std.specs.declared.alloc.Global.{Global}
use Rattle.pn_join.specs.declared.memory.NoMemory.{NoMemory}
use Rattle.pn_tablet.specs.Steps.{HasPositions, tablet_after, answer}
use Rattle.pn_tablet.specs.Tablets.{TabletStateValue, lie_in}
use Rattle.pn_tablet.specs.declared.change.Change.{Change}
use Rattle.pn_tablet.specs.declared.state.TabletOp.{TabletOp}
use Rattle.pn_tablet.specs.declared.state.TabletOp.TheVariants.{Join, Lose}
use Rattle.pn_apply.specs.declared.working.Span.{Span}

-- Operations on several tablets, each on its own.

-- the operation is a join of keys that lie in the tablet's range
abbrev pub IsJoinIn : TabletStateValue → TabletOp → Type 0
IsJoinIn tablet (Join cells marks) = IsTrue (lie_in tablet.range cells)
IsJoinIn tablet _ = ⊥

-- there are as many operations as tablets, each a join in the range of its own tablet
abbrev pub AreJoinsIn : List TabletStateValue → List TabletOp → Type 0
AreJoinsIn [] [] = Unit {0}
AreJoinsIn (tablet ∷ tablets) (operation ∷ operations) = IsJoinIn tablet operation × AreJoinsIn tablets operations
AreJoinsIn _ _ = ⊥

-- the positions that each operation brings are those of messages
abbrev pub HavePositions : List TabletOp → Type 0
HavePositions operations = AllByRecursion HasPositions operations

-- each tablet after its own operation
abbrev pub all_stepped : List TabletStateValue → List TabletOp → List TabletStateValue
all_stepped tablets operations = map (λ each. tablet_after each.0 each.1) (zip tablets operations)

-- what each operation changes in its own tablet
abbrev pub all_changes : List TabletStateValue → List TabletOp → List (List Change)
all_changes tablets operations = map (λ each. answer each.1 each.0 (tablet_after each.0 each.1)) (zip tablets operations)

-- each tablet is as it was, or as its own operation leaves it
abbrev pub AreOldOrStepped : List TabletStateValue → List TabletOp → List TabletStateValue → Type 0
AreOldOrStepped [] [] [] = Unit {0}
AreOldOrStepped (tablet ∷ tablets) (operation ∷ operations) (now ∷ nows) =
    ((now ≡ tablet) ⊎ (now ≡ tablet_after tablet operation)) × AreOldOrStepped tablets operations nows
AreOldOrStepped _ _ _ = ⊥

-- one of the tablets is as it was
abbrev pub IsSomeOld : List TabletStateValue → List TabletStateValue → Type 0
IsSomeOld (tablet ∷ tablets) (now ∷ nows) = (now ≡ tablet) ⊎ IsSomeOld tablets nows
IsSomeOld _ _ = ⊥

-- the operation of the tablet of this number
abbrev pub operation_at : List TabletOp → ℕ → TabletOp
operation_at operations n = get_or operations n Lose

-- Work in consecutive tablets.

-- the span is of this many tablets: enough for its workers, and each with a number
pub record IsSpanOf (tablets : ℕ) (span : Span) : Type 0 where
  pub enough : span.workers ≤ tablets
  pub numbers : span.first + tablets < 2 ^ 64

-- it holds for each member, by the numbers from this one on
abbrev pub Each : {A : Type 0} → (ℕ → A → Type 0) → ℕ → List A → Type 0
Each holds n [] = Unit {0}
Each holds n (x ∷ xs) = holds n x × Each holds (n + 1) xs

-- it holds for each member of one list and its counterpart in the other, by the numbers from this one on
abbrev pub EachOf : {A B : Type 0} → (ℕ → A → B → Type 0) → ℕ → List A → List B → Type 0
EachOf holds n [] [] = Unit {0}
EachOf holds n (x ∷ xs) (y ∷ ys) = holds n x y × EachOf holds (n + 1) xs ys
EachOf _ _ _ _ = ⊥

-- it holds for a member of one list and its counterpart in the other
abbrev pub OneOf : {A : Type 0} → (A → A → Type 0) → List A → List A → Type 0
OneOf holds (x ∷ xs) (y ∷ ys) = holds x y ⊎ OneOf holds xs ys
OneOf _ _ _ = ⊥

-- the item is as it was, or as an error leaves it
abbrev pub IsKept : {I : Type 0} → (I → I → Type 0) → I → I → Type 0
IsKept kept old new = (new ≡ old) ⊎ kept old new

-- each item is worked, and the result is what is made of them; or memory ran out, and at least one is not worked
pub record Worked {I M : Type 0} (turns : ℕ → I → I → Type 0) (makes : ℕ → I → M → Type 0) (kept : I → I → Type 0) (first : ℕ) (old : List I) (result : Result (Vec M Global) NoMemory) (new : List I) : Type 0 where
  pub ok : OnOk result (EachOf turns first old new)
  pub made : IfOk result (λ all. EachOf makes first old all.items)
  pub err : OnErr result (EachOf (λ n p q. turns n p q ⊎ IsKept kept p q) first old new)
  pub left : OnErr result (OneOf (IsKept kept) old new)
