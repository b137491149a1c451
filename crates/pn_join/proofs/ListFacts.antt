-- What holds of each element of a list, of a list of one item, and where a test divides a list.
use Rattle.std.proofs.Common.{ℕ, zero, suc, ◌<◌, List, [], ◌∷◌, ◌++◌, length, get_or, set, arith, ◌≡◌, slice_get, Some, ap, ◌+◌, ◌≤◌, Bool, true, false, cond, map, refl, ◌∙◌, sym}
use Rattle.std.specs.List.{AllByRecursion, prefix_len}
use Rattle.std.proofs.lemmas.List.{length-append}
use Rattle.pn_join.specs.Leaves.{all_entries, IsLeaf}
use Rattle.std.specs.List.Sorted.{IsPartitionPoint}

module _ {A : Type 0} (P : A → Type 0) where
  pub each_of : ((x : A) → P x) → (xs : List A) → AllByRecursion P xs
  each_of h [] = tt
  each_of h (x ∷ xs) = (h x, each_of h xs)

  pub each_prefix : (xs ys : List A) → AllByRecursion P (xs ++ ys) → AllByRecursion P xs
  each_prefix [] ys h = tt
  each_prefix (x ∷ xs) ys h = (h.0, each_prefix xs ys h.1)

  pub each_back : (xs ys : List A) → AllByRecursion P (xs ++ ys) → AllByRecursion P ys
  each_back [] ys h = h
  each_back (x ∷ xs) ys h = each_back xs ys h.1

  pub each_append : (xs ys : List A) → AllByRecursion P xs → AllByRecursion P ys → AllByRecursion P (xs ++ ys)
  each_append [] ys h g = g
  each_append (x ∷ xs) ys h g = (h.0, each_append xs ys h.1 g)

  pub each_weaker : (Q : A → Type 0) → ((x : A) → P x → Q x) → (xs : List A) → AllByRecursion P xs → AllByRecursion Q xs
  each_weaker Q f [] h = tt
  each_weaker Q f (x ∷ xs) h = (f x h.0, each_weaker Q f xs h.1)

  pub each_by_both : (Q R : A → Type 0) → ((x : A) → P x → Q x → R x) → (xs : List A) → AllByRecursion P xs → AllByRecursion Q xs → AllByRecursion R xs
  each_by_both Q R f [] h g = tt
  each_by_both Q R f (x ∷ xs) h g = (f x h.0 g.0, each_by_both Q R f xs h.1 g.1)

  pub each_last : (xs : List A) (y : A) → AllByRecursion P (xs ++ y ∷ []) → P y
  each_last xs y h = (each_back xs (y ∷ []) h).0

  pub each_set : (xs : List A) (i : ℕ) (x : A) → AllByRecursion P xs → P x → AllByRecursion P (set xs i x)
  each_set [] i x h is = tt
  each_set (y ∷ ys) zero x h is = (is, h.1)
  each_set (y ∷ ys) (suc i) x h is = (h.0, each_set ys i x h.1 is)

  pub each_at : (xs : List A) (i : ℕ) (d : A) → AllByRecursion P xs → i < length xs → P (get_or xs i d)
  each_at [] i d h lt = absurd (omega (arith, lt))
  each_at (x ∷ xs) zero d h lt = h.0
  each_at (x ∷ xs) (suc i) d h lt = each_at xs i d h.1 (omega (arith, lt))

pub only_one : {A : Type 0} (xs : List A) (x : A) → length xs ≡ 1 → Some x ≡ slice_get xs 0 → xs ≡ x ∷ []
only_one [] x one is = absurd (omega (arith, one))
only_one (y ∷ []) x one is = let same : y ≡ x = cc in ap (λ z. z ∷ []) same
only_one (y ∷ z ∷ ys) x one is = absurd (omega (arith, one))

-- leaves with one entry among them
pub one_entry : {A : Type 0} (leaves : List (List A)) (e : A) → AllByRecursion (λ leaf. IsLeaf leaf) leaves → all_entries leaves ≡ e ∷ [] → leaves ≡ (e ∷ []) ∷ []
one_entry [] e sizes is = cc
one_entry ([] ∷ ls) e sizes is = absurd (omega (arith, sizes.0.0))
one_entry ((x ∷ []) ∷ []) e sizes is = let same : x ≡ e = cc in ap (λ y. (y ∷ []) ∷ []) same
one_entry ((x ∷ []) ∷ l ∷ ls) e sizes is = absurd (omega (arith, ap length is, sizes.1.0.0, length-append l (all_entries ls)))
one_entry ((x ∷ y ∷ xs) ∷ ls) e sizes is = absurd (omega (arith, ap length is))

one_more : (i : ℕ) → suc i ≡ 1 + i
one_more i = omega arith

module _ {X : Type 0} (p : X → Bool) where
  pub prefix_at : (xs : List X) (i : ℕ) → i ≤ length xs → IsPartitionPoint (λ y. p y ≡ true) (λ y. p y ≡ false) xs i → i ≡ prefix_len p xs
  prefix_at [] i le h = omega (arith, le)
  prefix_at (x ∷ xs) zero le h = sym (ap (λ b. cond b (1 + prefix_len p xs) 0) (h.1 0 x (omega arith) (omega arith)))
  prefix_at (x ∷ xs) (suc i) le h =
      one_more i ∙ ap (λ n. 1 + n) (prefix_at xs i (omega (arith, le)) ((λ k d ge lt. h.0 (suc k) d (omega (arith, ge)) (omega (arith, lt))), (λ k d ge lt. h.1 (suc k) d (omega (arith, ge)) (omega (arith, lt)))))
      ∙ sym (ap (λ b. cond b (1 + prefix_len p xs) 0) (h.0 0 x (omega arith) (omega arith)))

  pub prefix_within : (xs : List X) → prefix_len p xs ≤ length xs
  prefix_within [] = omega arith
  prefix_within (x ∷ xs) =
      elim (p x) as (λ b. cond b (1 + prefix_len p xs) 0 ≤ length (x ∷ xs)) [
        | true ↦ omega (arith, prefix_within xs)
        | false ↦ omega arith
      ]

  pub prefix_len-map : {Y : Type 0} (f : Y → X) (ys : List Y) → prefix_len p (map f ys) ≡ prefix_len (λ y. p (f y)) ys
  prefix_len-map f [] = refl
  prefix_len-map f (y ∷ ys) = ap (λ n. cond (p (f y)) (1 + n) 0) (prefix_len-map f ys)

pub get_or-leaves : {X Y : Type 0} (f : X → Y) (xs : List X) (i : ℕ) (d : X) (e : Y) → i < length xs → f (get_or xs i d) ≡ get_or (map f xs) i e
get_or-leaves f [] i d e lt = absurd (omega (arith, lt))
get_or-leaves f (x ∷ xs) zero d e lt = refl
get_or-leaves f (x ∷ xs) (suc i) d e lt = get_or-leaves f xs i d e (omega (arith, lt))
