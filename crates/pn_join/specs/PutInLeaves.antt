-- What joining one entry does to leaves.
use Rattle.std.specs.Prelude.{◌≡◌, ◌<◌, ◌≤◌, List, [], ◌∷◌, ◌++◌, length, Some, option_map}
use Rattle.std.specs.declared.cmp.Ordering.{Ordering}
use Rattle.std.specs.FinMap.{find, put}
use Rattle.pn_join.specs.Tables.{optional_joined}

-- a valid content is put at the key, and means the join of the content before and the one given
pub record IsPutOf {K C M : Type 0} (cmp : K → K → Ordering) (meaning : C → M) (joined : M → M → M) (valid : C → Type 0) (key : K) (content : C) (old new : List (K × C)) : Type 0 where
  pub value : C
  pub put : new ≡ put cmp key value old
  pub means : Some (meaning value) ≡ optional_joined joined (option_map meaning (find cmp key old)) (Some (meaning content))
  pub is_valid : valid value

-- one leaf is changed, or cut in two; all others stay
pub record ReindicesOneLeaf {A : Type 0} (old new : List (List A)) : Type 0 where
  pub before : List (List A)
  pub after : List (List A)
  pub was : List A
  pub is : List (List A)
  pub one_or_two : (0 < length is) × (length is ≤ 2)
  pub old_leaves : old ≡ before ++ was ∷ after
  pub new_leaves : new ≡ before ++ (is ++ after)

-- one leaf is changed or cut in two, or the first is made; all others stay
abbrev pub ChangesOneLeaf : {A : Type 0} → List (List A) → List (List A) → Type 0
ChangesOneLeaf [] new = length new ≡ 1
ChangesOneLeaf (leaf ∷ leaves) new = ReindicesOneLeaf (leaf ∷ leaves) new
