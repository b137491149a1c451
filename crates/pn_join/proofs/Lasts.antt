-- The last of a list's elements, and lists of which one element is replaced.
use Rattle.std.proofs.Common.{◌≡◌, ℕ, zero, suc, ◌+◌, ◌-◌, ◌<◌, ◌≤◌, List, [], ◌∷◌, ◌++◌, length, map, get_or, set, insert, take, drop, slice_get, Option, Some, None, option_map, refl, sym, ap, ◌∙◌, arith, Result, Ok, Err, IfOk, OnErr}
use Rattle.std.specs.List.{AllByRecursion}
use Rattle.pn_join.specs.Leaves.{last_of}

module _ {A : Type 0} where
  pub last_one : (x : A) → last_of (x ∷ []) ≡ Some x
  last_one x = let at : length (x ∷ []) - 1 ≡ 0 = omega arith in ap (slice_get (x ∷ [])) at

  pub last_next : (x y : A) (xs : List A) → last_of (x ∷ y ∷ xs) ≡ last_of (y ∷ xs)
  last_next x y xs = let at : length (x ∷ y ∷ xs) - 1 ≡ suc (length (y ∷ xs) - 1) = omega arith in ap (slice_get (x ∷ y ∷ xs)) at

  pub last_push : (xs : List A) (x : A) → last_of (xs ++ x ∷ []) ≡ Some x
  last_push [] x = last_one x
  last_push (y ∷ []) x = last_next y x [] ∙ last_one x
  last_push (y ∷ z ∷ xs) x = last_next y z (xs ++ x ∷ []) ∙ last_push (z ∷ xs) x

  pub set_same : (xs : List A) (i : ℕ) (d : A) → i < length xs → set xs i (get_or xs i d) ≡ xs
  set_same [] i d lt = refl
  set_same (x ∷ xs) zero d lt = refl
  set_same (x ∷ xs) (suc i) d lt = ap (λ ys. x ∷ ys) (set_same xs i d (omega (arith, lt)))

  pub set_twice : (xs : List A) (i : ℕ) (x y : A) → set (set xs i x) i y ≡ set xs i y
  set_twice [] i x y = refl
  set_twice (z ∷ zs) zero x y = refl
  set_twice (z ∷ zs) (suc i) x y = ap (λ ys. z ∷ ys) (set_twice zs i x y)

  pub set_apart : (xs : List A) (i j : ℕ) (x y : A) → i < j → set (set xs i x) j y ≡ set (set xs j y) i x
  set_apart [] i j x y lt = refl
  set_apart (z ∷ zs) zero zero x y lt = absurd (omega (arith, lt))
  set_apart (z ∷ zs) zero (suc j) x y lt = refl
  set_apart (z ∷ zs) (suc i) zero x y lt = absurd (omega (arith, lt))
  set_apart (z ∷ zs) (suc i) (suc j) x y lt = ap (λ ys. z ∷ ys) (set_apart zs i j x y (omega (arith, lt)))

  pub get_set : (xs : List A) (i : ℕ) (x d : A) → i < length xs → get_or (set xs i x) i d ≡ x
  get_set [] i x d lt = absurd (omega (arith, lt))
  get_set (y ∷ ys) zero x d lt = refl
  get_set (y ∷ ys) (suc i) x d lt = get_set ys i x d (omega (arith, lt))

  -- one that stands before another that is replaced
  pub get_before_set : (xs : List A) (i j : ℕ) (x d : A) → i < j → get_or (set xs j x) i d ≡ get_or xs i d
  get_before_set [] i j x d lt = refl
  get_before_set (y ∷ ys) zero zero x d lt = absurd (omega (arith, lt))
  get_before_set (y ∷ ys) zero (suc j) x d lt = refl
  get_before_set (y ∷ ys) (suc i) zero x d lt = absurd (omega (arith, lt))
  get_before_set (y ∷ ys) (suc i) (suc j) x d lt = get_before_set ys i j x d (omega (arith, lt))

  pub take_before_set : (xs : List A) (i j : ℕ) (x : A) → i ≤ j → take i (set xs j x) ≡ take i xs
  take_before_set xs zero j x le = refl
  take_before_set [] (suc i) j x le = refl
  take_before_set (y ∷ ys) (suc i) zero x le = absurd (omega (arith, le))
  take_before_set (y ∷ ys) (suc i) (suc j) x le = ap (λ zs. y ∷ zs) (take_before_set ys i j x (omega (arith, le)))

  pub get_taken : (xs : List A) (i : ℕ) (d : A) → get_or (take (suc i) xs) i d ≡ get_or xs i d
  get_taken [] zero d = refl
  get_taken [] (suc i) d = refl
  get_taken (x ∷ xs) zero d = refl
  get_taken (x ∷ xs) (suc i) d = get_taken xs i d

  pub length-set : (xs : List A) (i : ℕ) (x : A) → length (set xs i x) ≡ length xs
  length-set [] i x = refl
  length-set (y ∷ ys) zero x = refl
  length-set (y ∷ ys) (suc i) x = ap suc (length-set ys i x)

module _ {A B : Type 0} (f : A → B) where
  pub map-set : (xs : List A) (i : ℕ) (x : A) → map f (set xs i x) ≡ set (map f xs) i (f x)
  map-set [] i x = refl
  map-set (y ∷ ys) zero x = refl
  map-set (y ∷ ys) (suc i) x = ap (λ zs. f y ∷ zs) (map-set ys i x)

  pub map-insert : (xs : List A) (i : ℕ) (x : A) → map f (insert xs i x) ≡ insert (map f xs) i (f x)
  map-insert [] zero x = refl
  map-insert [] (suc i) x = refl
  map-insert (y ∷ ys) zero x = refl
  map-insert (y ∷ ys) (suc i) x = ap (λ zs. f y ∷ zs) (map-insert ys i x)

  pub map-push : (xs : List A) (x : A) → map f (xs ++ x ∷ []) ≡ map f xs ++ f x ∷ []
  map-push [] x = refl
  map-push (y ∷ ys) x = ap (λ zs. f y ∷ zs) (map-push ys x)

  pub map-take : (n : ℕ) (xs : List A) → map f (take n xs) ≡ take n (map f xs)
  map-take zero xs = refl
  map-take (suc n) [] = refl
  map-take (suc n) (x ∷ xs) = ap (λ zs. f x ∷ zs) (map-take n xs)

  pub map-drop : (n : ℕ) (xs : List A) → map f (drop n xs) ≡ drop n (map f xs)
  map-drop zero xs = refl
  map-drop (suc n) [] = refl
  map-drop (suc n) (x ∷ xs) = map-drop n xs

  pub length-mapped : (xs : List A) → length (map f xs) ≡ length xs
  length-mapped [] = refl
  length-mapped (x ∷ xs) = ap suc (length-mapped xs)

  pub get-mapped : (xs : List A) (i : ℕ) (d : A) (e : B) → i < length xs → f (get_or xs i d) ≡ get_or (map f xs) i e
  get-mapped [] i d e lt = absurd (omega (arith, lt))
  get-mapped (x ∷ xs) zero d e lt = refl
  get-mapped (x ∷ xs) (suc i) d e lt = get-mapped xs i d e (omega (arith, lt))

  pub slice-mapped : (xs : List A) (i : ℕ) → slice_get (map f xs) i ≡ option_map f (slice_get xs i)
  slice-mapped [] i = refl
  slice-mapped (x ∷ xs) zero = refl
  slice-mapped (x ∷ xs) (suc i) = slice-mapped xs i

module _ {A B : Type 0} (f : A → B) (xs : List A) (i : ℕ) where
  pub put_again : (x y : A) → map f (set (set xs i x) i y) ≡ set (map f xs) i (f y)
  put_again x y = map-set f (set xs i x) i y ∙ ap (λ ys. set ys i (f y)) (map-set f xs i x) ∙ set_twice (map f xs) i (f x) (f y)

  pub put_as_was : (x y : A) (d : B) → i < length (map f xs) → f y ≡ get_or (map f xs) i d → map f (set (set xs i x) i y) ≡ map f xs
  put_as_was x y d lt is = put_again x y ∙ ap (set (map f xs) i) is ∙ set_same (map f xs) i d lt

  pub still_there : (x : A) (d : B) → i < length (map f xs) → f x ≡ get_or (map f xs) i d → map f (set xs i x) ≡ map f xs
  still_there x d lt is = map-set f xs i x ∙ ap (set (map f xs) i) is ∙ set_same (map f xs) i d lt

  -- the one that is put there
  pub there_now : (y : A) (d : B) → i < length (map f xs) → get_or (map f (set xs i y)) i d ≡ f y
  there_now y d lt = ap (λ ys. get_or ys i d) (map-set f xs i y) ∙ get_set (map f xs) i (f y) d lt

pub if_ok_three : {T E : Type 0} (r : Result T E) {P Q R S : T → Type 0} → ((x : T) → P x → Q x → R x → S x) → IfOk r P → IfOk r Q → IfOk r R → IfOk r S
if_ok_three (Ok x) f p q s = f x p q s
if_ok_three (Err e) f p q s = tt

pub if_ok_two : {T E : Type 0} (r : Result T E) {P Q S : T → Type 0} → ((x : T) → P x → Q x → S x) → IfOk r P → IfOk r Q → IfOk r S
if_ok_two (Ok x) f p q = f x p q
if_ok_two (Err e) f p q = tt

pub on_err_of : {T E : Type 0} (r : Result T E) {P : Type 0} → P → OnErr r P
on_err_of (Ok x) p = tt
on_err_of (Err e) p = p

pub on_err_by : {T E : Type 0} (r : Result T E) {P Q : Type 0} → (P → Q) → OnErr r P → OnErr r Q
on_err_by (Ok x) f p = tt
on_err_by (Err e) f p = f p
