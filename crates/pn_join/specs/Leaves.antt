-- The entries of a table, divided into leaves.
use Rattle.std.specs.Prelude.{◌≡◌, ℕ, suc, ◌+◌, ◌-◌, ◌^◌, ◌<◌, ◌≤◌, Bool, false, cond, List, [], ◌∷◌, Option, length, slice_get}
use Rattle.std.specs.declared.cmp.Ordering.{Ordering}
use Rattle.std.specs.Ordering.{is_lt}
use Rattle.std.specs.List.{AllByRecursion, flat_map}
use Rattle.pn_join.specs.Tables.{IsTable}
use Rattle.pn_join.specs.declared.table.leaf_join.TheConstants.{MAX_LEAF_ENTRIES}

-- the entries of all leaves, one leaf after another
abbrev pub all_entries : {A : Type 0} → List (List A) → List A
all_entries leaves = flat_map (λ leaf. leaf) leaves

-- at least one entry, and at most as many as a leaf may have
abbrev pub IsLeaf : {A : Type 0} → List A → Type 0
IsLeaf leaf = (0 < length leaf) × (length leaf ≤ MAX_LEAF_ENTRIES)

-- the last element, if there is one
abbrev pub last_of : {A : Type 0} → List A → Option A
last_of elements = slice_get elements (length elements - 1)

-- the leaves of a table
pub record IsLeafList {K C : Type 0} (cmp : K → K → Ordering) (valid : C → Type 0) (leaves : List (List (K × C))) : Type 0 where
  pub sizes : AllByRecursion (λ leaf. IsLeaf leaf) leaves
  pub table : IsTable cmp valid (all_entries leaves)

-- the entries in order, divided into leaves
abbrev pub AreLeavesOf : {A : Type 0} → List A → List (List A) → Type 0
AreLeavesOf entries leaves = (all_entries leaves ≡ entries) × AllByRecursion (λ leaf. IsLeaf leaf) leaves

-- cumulative entry counts of the leaves, starting at n
abbrev pub counts_after : {A : Type 0} → ℕ → List (List A) → List ℕ
counts_after n [] = []
counts_after n (leaf ∷ leaves) = (n + length leaf) ∷ counts_after (n + length leaf) leaves

-- the cumulative entry counts of the leaves, all within 64 bits
pub record AreEntryCounts {A : Type 0} (leaves : List (List A)) (entry_counts : List ℕ) : Type 0 where
  pub each : entry_counts ≡ counts_after 0 leaves
  pub fits : length (all_entries leaves) < 2 ^ 64

-- the first key is less than this one
abbrev pub begins_below : {K C : Type 0} → (K → K → Ordering) → K → List (K × C) → Bool
begins_below cmp key [] = false
begins_below cmp key (entry ∷ leaf) = is_lt (cmp entry.0 key)

-- the last key is less than this one
abbrev pub ends_below : {K C : Type 0} → (K → K → Ordering) → K → List (K × C) → Bool
ends_below cmp key [] = false
ends_below cmp key (entry ∷ []) = is_lt (cmp entry.0 key)
ends_below cmp key (entry ∷ next ∷ leaf) = ends_below cmp key (next ∷ leaf)

-- the index of the leaf that a key belongs into: the first whose last key is not less, or else the last
abbrev pub leaf_for : {K C : Type 0} → (K → K → Ordering) → K → List (List (K × C)) → ℕ
leaf_for cmp key [] = 0
leaf_for cmp key (leaf ∷ []) = 0
leaf_for cmp key (leaf ∷ next ∷ leaves) = cond (ends_below cmp key leaf) (suc (leaf_for cmp key (next ∷ leaves))) 0
