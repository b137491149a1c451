-- The index of a key among entries whose keys rise.
use Rattle.std.specs.Prelude.{◌≡◌, ℕ, suc, false, List, [], ◌∷◌, Result, Ok, Err}
use Rattle.std.specs.declared.cmp.Ordering.{Ordering}
use Rattle.std.specs.Ordering.{is_lt}
use Rattle.std.specs.List.{AllByRecursion}
use Rattle.std.specs.FinMap.Entries.{by_order}

-- one index further
abbrev pub later : Result ℕ ℕ → Result ℕ ℕ
later (Ok i) = Ok (suc i)
later (Err i) = Err (suc i)

-- the index of the first entry whose key is not less: `Ok` if its key is equal, otherwise `Err`
abbrev pub index_of : {K X : Type 0} → (K → K → Ordering) → K → List (K × X) → Result ℕ ℕ
index_of cmp key [] = Err 0
index_of cmp key (e ∷ es) = by_order (cmp key e.0) (Err 0) (Ok 0) (later (index_of cmp key es))

-- no entry has a greater key than this one
abbrev pub AreUpTo : {K X : Type 0} → (K → K → Ordering) → K → List (K × X) → Type 0
AreUpTo cmp key entries = AllByRecursion (λ e. is_lt (cmp key e.0) ≡ false) entries
