-- A table as the list of its entries, and its content at each key.
use Rattle.std.specs.Prelude.{List, Option, Some, None, option_map, IsTrue}
use Rattle.std.specs.declared.cmp.Ordering.{Ordering}
use Rattle.std.specs.List.{AllByRecursion}
use Rattle.std.specs.FinMap.{find, is_sorted}

-- the keys strictly rise, and every content is valid
pub record IsTable {K C : Type 0} (cmp : K → K → Ordering) (valid : C → Type 0) (entries : List (K × C)) : Type 0 where
  pub rising : IsTrue (is_sorted cmp entries)
  pub contents : AllByRecursion (λ entry. valid entry.1) entries

-- what the content at a key means
abbrev pub contents_at : {K C M : Type 0} → (K → K → Ordering) → (C → M) → List (K × C) → K → Option M
contents_at cmp meaning entries key = option_map meaning (find cmp key entries)

-- the join of two optional contents
abbrev pub optional_joined : {M : Type 0} → (M → M → M) → Option M → Option M → Option M
optional_joined joined None b = b
optional_joined joined (Some a) None = Some a
optional_joined joined (Some a) (Some b) = Some (joined a b)

-- two maps joined key by key
abbrev pub key_by_key : {K M : Type 0} → (M → M → M) → (K → Option M) → (K → Option M) → K → Option M
key_by_key joined a b key = optional_joined joined (a key) (b key)
