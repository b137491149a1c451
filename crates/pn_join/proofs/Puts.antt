-- What a table has after an entry is put in, and when two tables are the same.
use Rattle.std.proofs.Common.{◌≡◌, Bool, true, false, cond, T, List, [], ◌∷◌, map, Option, Some, None, option_map, Ordering, Less, Equal, Greater, is_eq, refl, sym, ap, ◌∙◌, subst, ◌+◌, ◌≤◌, length, arith, IsTrue}
use Rattle.std.specs.List.{AllByRecursion}
use Rattle.std.specs.Ordering.{eq_by_cmp}
use Rattle.std.specs.Cmp.{IsTotalOrder}
use Rattle.std.specs.FinMap.{find, put, is_sorted, IsAntisymmetric}
use Rattle.std.specs.FinMap.Entries.{by_order, find-put, find_tied, is_sorted-put, same_entries}
use Rattle.pn_join.specs.Tables.{IsTable, contents_at, optional_joined, key_by_key}
use Rattle.pn_join.specs.PutInLeaves.{IsPutOf}
use Rattle.pn_join.specs.Laws.{JoinLaws}

is_so : (b : Bool) → T b → b ≡ true
is_so true h = refl
is_so false h = absurd h

pub tie : (r : Ordering) → is_eq r ≡ true → r ≡ Equal
tie Less p = cc
tie Equal p = refl
tie Greater p = cc

module _ {K X : Type 0} (cmp : K → K → Ordering) where
  pub keys_put : (key : K) (v w : X) (es : List (K × X)) → map (λ e. e.0) (put cmp key v es) ≡ map (λ e. e.0) (put cmp key w es)
  keys_put key v w [] = refl
  keys_put key v w (e ∷ es) =
      elim (cmp key e.0) as (λ r. map (λ x. x.0) (by_order r ((key, v) ∷ e ∷ es) ((e.0, v) ∷ es) (e ∷ put cmp key v es)) ≡ map (λ x. x.0) (by_order r ((key, w) ∷ e ∷ es) ((e.0, w) ∷ es) (e ∷ put cmp key w es))) [
        | Less ↦ refl
        | Equal ↦ refl
        | Greater ↦ ap (λ ks. e.0 ∷ ks) (keys_put key v w es)
      ]

  contents_put : (valid : X → Type 0) (key : K) (v : X) (es : List (K × X)) → valid v → AllByRecursion (λ e. valid e.1) es → AllByRecursion (λ e. valid e.1) (put cmp key v es)
  contents_put valid key v [] is h = (is, tt)
  contents_put valid key v (e ∷ es) is h =
      elim (cmp key e.0) as (λ r. AllByRecursion (λ x. valid x.1) (by_order r ((key, v) ∷ e ∷ es) ((e.0, v) ∷ es) (e ∷ put cmp key v es))) [
        | Less ↦ (is, h)
        | Equal ↦ (is, h.1)
        | Greater ↦ (h.0, contents_put valid key v es is h.1)
      ]

  module _ (o : IsTotalOrder cmp) where
    pub IsTable-put : (valid : X → Type 0) (key : K) (v : X) (es : List (K × X)) → valid v → IsTable cmp valid es → IsTable cmp valid (put cmp key v es)
    IsTable-put valid key v es is h = record {
      rising = is_so _ (is_sorted-put cmp o key v es (subst T (sym h.rising) tt));
      contents = contents_put valid key v es is h.contents;
    }

    module _ {M : Type 0} (meaning : X → M) (joined : M → M → M) where
      unchanged : (a : Option M) → a ≡ optional_joined joined a None
      unchanged None = refl
      unchanged (Some a) = refl

      -- an entry joined in: v means the join of the content present and the one given
      pub contents_at-put : (key : K) (v content : X) (es : List (K × X)) → Some (meaning v) ≡ optional_joined joined (option_map meaning (find cmp key es)) (Some (meaning content)) → contents_at cmp meaning (put cmp key v es) ≡ key_by_key joined (contents_at cmp meaning es) (contents_at cmp meaning ((key, content) ∷ []))
      contents_at-put key v content es means i q = at i where
        at : option_map meaning (find cmp q (put cmp key v es)) ≡ optional_joined joined (option_map meaning (find cmp q es)) (option_map meaning (cond (eq_by_cmp cmp q key) (Some content) None))
        at = ap (option_map meaning) (find-put cmp o q key v es)
            ∙ elim (eq_by_cmp cmp q key) as (λ b. eq_by_cmp cmp q key ≡ b → option_map meaning (cond b (Some v) (find cmp q es)) ≡ optional_joined joined (option_map meaning (find cmp q es)) (option_map meaning (cond b (Some content) None))) [
              | true ↦ λ p. means ∙ ap (λ x. optional_joined joined (option_map meaning x) (Some (meaning content))) (find_tied cmp o q key (tie _ p) es)
              | false ↦ λ p. unchanged (option_map meaning (find cmp q es))
            ] refl

      -- an entry that changes nothing when joined
      pub contents_at-same : (key : K) (content : X) (es : List (K × X)) → optional_joined joined (option_map meaning (find cmp key es)) (Some (meaning content)) ≡ option_map meaning (find cmp key es) → contents_at cmp meaning es ≡ key_by_key joined (contents_at cmp meaning es) (contents_at cmp meaning ((key, content) ∷ []))
      contents_at-same key content es same i q = at i where
        at : option_map meaning (find cmp q es) ≡ optional_joined joined (option_map meaning (find cmp q es)) (option_map meaning (cond (eq_by_cmp cmp q key) (Some content) None))
        at = elim (eq_by_cmp cmp q key) as (λ b. eq_by_cmp cmp q key ≡ b → option_map meaning (find cmp q es) ≡ optional_joined joined (option_map meaning (find cmp q es)) (option_map meaning (cond b (Some content) None))) [
          | true ↦ λ p.
              let here = ap (option_map meaning) (find_tied cmp o q key (tie _ p) es) in
              sym here ∙ sym same ∙ ap (λ x. optional_joined joined x (Some (meaning content))) here
          | false ↦ λ p. unchanged (option_map meaning (find cmp q es))
        ] refl

module _ {K X : Type 0} (cmp : K → K → Ordering) (key : K) (v : X) where
  pub put_grows : (es : List (K × X)) → length es ≤ length (put cmp key v es)
  put_grows [] = omega arith
  put_grows (e ∷ es) =
      elim (cmp key e.0) as (λ r. length (e ∷ es) ≤ length (by_order r ((key, v) ∷ e ∷ es) ((e.0, v) ∷ es) (e ∷ put cmp key v es))) [
        | Less ↦ omega arith
        | Equal ↦ omega arith
        | Greater ↦ omega (arith, put_grows es)
      ]

  pub put_by_one : (es : List (K × X)) → length (put cmp key v es) ≤ length es + 1
  put_by_one [] = omega arith
  put_by_one (e ∷ es) =
      elim (cmp key e.0) as (λ r. length (by_order r ((key, v) ∷ e ∷ es) ((e.0, v) ∷ es) (e ∷ put cmp key v es)) ≤ length (e ∷ es) + 1) [
        | Less ↦ omega arith
        | Equal ↦ omega arith
        | Greater ↦ omega (arith, put_by_one es)
      ]

module _ {K C M : Type 0} {cmp : K → K → Ordering} {meaning : C → M} {joined : M → M → M} {valid : C → Type 0} {key : K} {content : C} {old new : List (K × C)} (is : IsPutOf cmp meaning joined valid key content old new) where
  pub length-grows : length old ≤ length new
  length-grows = omega (arith, put_grows cmp key is.value old, ap length is.put)

  pub length-by_one : length new ≤ length old + 1
  length-by_one = omega (arith, put_by_one cmp key is.value old, ap length is.put)

  pub IsTable-new : IsTotalOrder cmp → IsTable cmp valid old → IsTable cmp valid new
  IsTable-new o table = rw is.put (IsTable-put cmp o valid key is.value old is.is_valid table)

  pub joins_new : IsTotalOrder cmp → contents_at cmp meaning new ≡ key_by_key joined (contents_at cmp meaning old) (contents_at cmp meaning ((key, content) ∷ []))
  joins_new o = ap (contents_at cmp meaning) is.put ∙ contents_at-put cmp o meaning joined key is.value content old is.means

-- joining the same again changes nothing
pub absorbed : {M : Type 0} {joined : M → M → M} → JoinLaws joined → (a b : M) → joined (joined a b) b ≡ joined a b
absorbed {joined = joined} laws a b = laws.associates a b b ∙ ap (joined a) (laws.repeats b)

module _ {K C M : Type 0} (cmp : K → K → Ordering) (meaning : C → M) where
  same_content : ((x y : C) → meaning x ≡ meaning y → x ≡ y) → (a b : Option C) → option_map meaning a ≡ option_map meaning b → a ≡ b
  same_content same None None is = refl
  same_content same None (Some b) is = cc
  same_content same (Some a) None is = cc
  same_content same (Some a) (Some b) is = ap Some (same a b cc)

  -- tables with the same content at each key are the same list
  pub same_tables : IsTotalOrder cmp → IsAntisymmetric cmp → ((x y : C) → meaning x ≡ meaning y → x ≡ y) → (es fs : List (K × C)) → IsTrue (is_sorted cmp es) → IsTrue (is_sorted cmp fs) → contents_at cmp meaning es ≡ contents_at cmp meaning fs → es ≡ fs
  same_tables o keys same es fs g h is =
      same_entries cmp o keys es fs (subst T (sym g) tt) (subst T (sym h) tt)
      (λ q. same_content same (find cmp q es) (find cmp q fs) (ap (λ f. f q) is))
