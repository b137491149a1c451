-- Joining maps key by key is commutative, associative and idempotent if joining contents is.
use Rattle.std.proofs.Common.{◌≡◌, Option, Some, None, refl, ap}
use Rattle.pn_join.specs.Laws.{JoinLaws}
use Rattle.pn_join.specs.Tables.{optional_joined, key_by_key}

module _ {M : Type 0} {joined : M → M → M} (laws : JoinLaws joined) where
  optional_commutes : (a b : Option M) → optional_joined joined a b ≡ optional_joined joined b a
  optional_commutes None None = refl
  optional_commutes None (Some b) = refl
  optional_commutes (Some a) None = refl
  optional_commutes (Some a) (Some b) = ap Some (laws.commutes a b)

  optional_associates : (a b c : Option M) → optional_joined joined (optional_joined joined a b) c ≡ optional_joined joined a (optional_joined joined b c)
  optional_associates None b c = refl
  optional_associates (Some a) None c = refl
  optional_associates (Some a) (Some b) None = refl
  optional_associates (Some a) (Some b) (Some c) = ap Some (laws.associates a b c)

  optional_repeats : (a : Option M) → optional_joined joined a a ≡ a
  optional_repeats None = refl
  optional_repeats (Some a) = ap Some (laws.repeats a)

  pub key_by_key-laws : {K : Type 0} → JoinLaws (key_by_key {K = K} joined)
  key_by_key-laws = record {
    commutes = λ a b i key. optional_commutes (a key) (b key) i;
    associates = λ a b c i key. optional_associates (a key) (b key) (c key) i;
    repeats = λ a i key. optional_repeats (a key) i;
  }
