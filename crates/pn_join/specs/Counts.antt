-- Counts of entries and leaves up to the end of each node of a row.
use Rattle.std.specs.Prelude.{◌≡◌, ℕ, zero, suc, ◌+◌, ◌-◌, ◌^◌, ◌<◌, ◌≤◌, List, [], ◌∷◌, Option, None, Some, option_map, unwrap_or, get_or, insert, length, map}
use Rattle.pn_join.specs.NodeLeaves.{in_nodes}
use Rattle.pn_join.specs.Leaves.{all_entries, AreEntryCounts}
use Rattle.pn_join.specs.declared.table.counts.Sizes.{Sizes}

-- the counts of entries
abbrev pub entry_ends : List Sizes → List ℕ
entry_ends ends = map (λ end. end.entries) ends

-- the counts of leaves
abbrev pub leaf_ends : List Sizes → List ℕ
leaf_ends ends = map (λ end. end.leaves) ends

-- the count before a node
abbrev pub end_before : ℕ → List ℕ → ℕ
end_before zero ends = 0
end_before (suc index) ends = get_or ends index 0

-- the counts from an index on moved by as much as one of them
abbrev pub moved_from : ℕ → ℕ → ℕ → List ℕ → List ℕ
moved_from index was is [] = []
moved_from zero was is (n ∷ ns) = ((n - was) + is) ∷ moved_from zero was is ns
moved_from (suc index) was is (n ∷ ns) = n ∷ moved_from index was is ns

-- moving the counts from an index on stays within 64 bits
abbrev pub CanMove : ℕ → ℕ → ℕ → List ℕ → Type 0
CanMove index was is [] = Unit {0}
CanMove zero was is (n ∷ ns) = (was ≤ n) × ((n - was) + is < 2 ^ 64) × CanMove zero was is ns
CanMove (suc index) was is (n ∷ ns) = CanMove index was is ns

-- the counts of these nodes
pub record AreCounts {A : Type 0} (nodes : List (List (List A))) (ends : List Sizes) : Type 0 where
  pub entries : AreEntryCounts (in_nodes nodes) (entry_ends ends)
  pub leaves : AreEntryCounts nodes (leaf_ends ends)

-- the counts where a node has `front` now, and `back` comes after it, if anything
abbrev pub recounted : ℕ → ℕ → Option ℕ → List ℕ → List ℕ
recounted index front None ends = moved_from index (get_or ends index 0) (end_before index ends + front) ends
recounted index front (Some back) ends =
    insert (moved_from index (get_or ends index 0) ((end_before index ends + front) + back) ends) index (end_before index ends + front)

-- counting a node anew stays within 64 bits
abbrev pub MayRecount : ℕ → ℕ → Option ℕ → List ℕ → Type 0
MayRecount index front back ends = CanMove index (get_or ends index 0) ((end_before index ends + front) + unwrap_or back 0) ends

-- how many entries there are, if any
abbrev pub entry_count : {A : Type 0} → Option (List (List A)) → Option ℕ
entry_count back = option_map (λ leaves. length (all_entries leaves)) back

-- how many leaves there are, if any
abbrev pub leaf_count : {A : Type 0} → Option (List (List A)) → Option ℕ
leaf_count back = option_map length back

-- a node that has these leaves now, and those after it, may be counted anew
pub record CanRecount {A : Type 0} (index : ℕ) (front : List (List A)) (back : Option (List (List A))) (ends : List Sizes) : Type 0 where
  pub entries : MayRecount index (length (all_entries front)) (entry_count back) (entry_ends ends)
  pub leaves : MayRecount index (length front) (leaf_count back) (leaf_ends ends)

-- such a node is counted anew
pub record AreRecounted {A : Type 0} (index : ℕ) (front : List (List A)) (back : Option (List (List A))) (ends new_ends : List Sizes) : Type 0 where
  pub entries : entry_ends new_ends ≡ recounted index (length (all_entries front)) (entry_count back) (entry_ends ends)
  pub leaves : leaf_ends new_ends ≡ recounted index (length front) (leaf_count back) (leaf_ends ends)
