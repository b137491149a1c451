-- Entries whose keys rise, seen pair by pair, and lists in content order, gathered step by step.
use Rattle.std.proofs.Common.{◌≡◌, List, [], ◌∷◌, map, refl, ap, ℕ, zero, suc, ◌<◌, Bool, true, false, ◌&&◌, length, get_or, take, ◌+◌, ◌∙◌, sym, subst, arith, ◌++◌, Option, Some, None, append_assoc}
use Rattle.std.specs.declared.cmp.Ordering.{Ordering}
use Rattle.std.specs.Ordering.{ordering_then, is_lt, ordering_reverse}
use Rattle.std.specs.Cmp.Lexicographic.{slice_cmp}
use Rattle.std.specs.declared.cmp.Ordering.TheVariants.{Less, Equal, Greater}
use Rattle.std.specs.Cmp.{IsTotalOrder}
use Rattle.std.specs.FinMap.{is_sorted, get}
use Rattle.std.proofs.lemmas.List.{get_or-map, length-map, length_push, length-append, append-nil}
use Rattle.std.specs.FinMap.Entries.{below_all}
use Rattle.pn_record.specs.Limits.{ContentValue}
use Rattle.pn_record.specs.Sets.{content_cmp, Contents, IsContents, as_entries, set_of, union}
use Rattle.pn_record.specs.Laws.{content_cmp_total, content_cmp-exact, either, get-union, same, set_of-append, union-empty, union-assoc}

-- Orders of lists that show other lists.

-- comparing what a function shows of the items is comparing the lists of what it shows
pub slice_cmp-map : {A B : Type 0} (R : B → B → Ordering) (f : A → B) (xs ys : List A) → slice_cmp R (map f xs) (map f ys) ≡ slice_cmp (λ x y. R (f x) (f y)) xs ys
slice_cmp-map R f [] [] = refl
slice_cmp-map R f [] (y ∷ ys) = refl
slice_cmp-map R f (x ∷ xs) [] = refl
slice_cmp-map R f (x ∷ xs) (y ∷ ys) = ap (ordering_then (R (f x) (f y))) (slice_cmp-map R f xs ys)

-- Entries whose keys rise: seen pair by pair, as a loop looks at them.

pub both_true : (a b : Bool) → a ≡ true → b ≡ true → (a && b) ≡ true
both_true a b p q = cc

pub first_true : (a b : Bool) → (a && b) ≡ true → a ≡ true
first_true true b p = refl
first_true false b p = p

pub second_true : (a b : Bool) → (a && b) ≡ true → b ≡ true
second_true true b p = p
second_true false b p = cc

pub is_less : (o : Ordering) → is_lt o ≡ true → o ≡ Less
is_less Less p = refl
is_less Equal p = cc
is_less Greater p = cc

module _ {K X : Type 0} {R : K → K → Ordering} (o : IsTotalOrder R) where
  -- what is below y is below all that y is below
  pub below_lesser : (x y : K) (es : List (K × X)) → R x y ≡ Less → below_all R y es ≡ true → below_all R x es ≡ true
  below_lesser x y [] less h = refl
  below_lesser x y (e ∷ es) less h =
      let y_first = is_less _ (first_true _ (below_all R y es) h) in
      both_true _ _ (ap is_lt (o.trans x y e.0 less y_first)) (below_lesser x y es less (second_true (is_lt (R y e.0)) _ h))

  -- one more entry whose key is above the last
  pub sorted_more : (es : List (K × X)) (i : ℕ) (d : K × X) → suc i < length es → is_sorted R (take (suc i) es) ≡ true → R (get_or es i d).0 (get_or es (suc i) d).0 ≡ Less → is_sorted R (take (suc (suc i)) es) ≡ true
  sorted_more [] i d inside sorted less = absurd (omega arith)
  sorted_more (e ∷ []) i d inside sorted less = absurd (omega arith)
  sorted_more (e ∷ f ∷ es) zero d inside sorted less = both_true _ _ (both_true _ _ (ap is_lt less) refl) refl
  sorted_more (e ∷ f ∷ es) (suc i) d inside sorted less =
      let rest = sorted_more (f ∷ es) i d (omega arith) (second_true (below_all R e.0 (f ∷ take i es)) _ sorted) less in
      let e_f = is_less _ (first_true _ _ (first_true _ _ sorted)) in
      both_true _ _ (both_true _ _ (ap is_lt e_f) (below_lesser e.0 f.0 (take (suc i) es) e_f (first_true _ _ rest))) rest

  -- each key is below the next
  pub sorted_pair : (es : List (K × X)) (i : ℕ) (d : K × X) → suc i < length es → is_sorted R es ≡ true → R (get_or es i d).0 (get_or es (suc i) d).0 ≡ Less
  sorted_pair [] i d inside sorted = absurd (omega arith)
  sorted_pair (e ∷ []) i d inside sorted = absurd (omega arith)
  sorted_pair (e ∷ f ∷ es) zero d inside sorted = is_less _ (first_true _ _ (first_true _ _ sorted))
  sorted_pair (e ∷ f ∷ es) (suc i) d inside sorted = sorted_pair (f ∷ es) i d (omega arith) (second_true (below_all R e.0 (f ∷ es)) _ sorted)

module _ {K X Y : Type 0} {R : K → K → Ordering} (o : IsTotalOrder R) (f : Y → K × X) (ys : List Y) (j i : ℕ) (after : suc j ≡ i) (a b : Y) (here : a ≡ get_or ys j a) (next : b ≡ get_or ys i b) (inside : i < length ys) where
  at_j : get_or (map f ys) j (f a) ≡ f a
  at_j = get_or-map f ys j a (f a) (omega arith) ∙ ap f (sym here)

  at_next : get_or (map f ys) (suc j) (f a) ≡ f b
  at_next = ap (λ n. get_or (map f ys) n (f a)) after ∙ get_or-map f ys i b (f a) inside ∙ ap f (sym next)

  keys : R (get_or (map f ys) j (f a)).0 (get_or (map f ys) (suc j) (f a)).0 ≡ R (f a).0 (f b).0
  keys = ap (λ (x : K × X). R x.0 (get_or (map f ys) (suc j) (f a)).0) at_j ∙ ap (λ (x : K × X). R (f a).0 x.0) at_next

  within : suc j < length (map f ys)
  within = omega (arith, length-map ys f)

  -- what a loop learns that compares each item with the one before it, where the keys rise
  pub sorted_step : is_sorted R (take i (map f ys)) ≡ true → R (f a).0 (f b).0 ≡ Less → is_sorted R (take (i + 1) (map f ys)) ≡ true
  sorted_step sorted less =
      let more = sorted_more o (map f ys) j (f a) within (subst (λ n. is_sorted R (take n (map f ys)) ≡ true) (sym after) sorted) (keys ∙ less) in
      let e : suc (suc j) ≡ i + 1 = omega arith in
      subst (λ n. is_sorted R (take n (map f ys)) ≡ true) e more

  -- and where they don't
  pub unsorted_step : is_lt (R (f a).0 (f b).0) ≡ false → is_sorted R (map f ys) ≡ false
  unsorted_step above = elim (is_sorted R (map f ys)) as (λ v. is_sorted R (map f ys) ≡ v → v ≡ false) [
    | true ↦ λ sorted. let less = ap is_lt (sym keys ∙ sorted_pair o (map f ys) j (f a) within sorted) in cc
    | false ↦ λ _. refl
  ] refl

-- Two lists in content order, gathered step by step.

-- the contents are in content order, each once
abbrev pub Rises : List ContentValue → Type 0
Rises list = is_sorted content_cmp (as_entries list) ≡ true

below_between : (a : ContentValue) (before : List ContentValue) (x y : ContentValue) (xs ys : List ContentValue) → below_all content_cmp a (as_entries (before ++ x ∷ xs)) ≡ true → below_all content_cmp a (as_entries (before ++ y ∷ ys)) ≡ true → below_all content_cmp a (as_entries (before ++ x ∷ y ∷ ys)) ≡ true
below_between a [] x y xs ys p q = both_true _ _ (first_true _ (below_all content_cmp a (as_entries xs)) p) q
below_between a (b ∷ before) x y xs ys p q =
    both_true _ _ (first_true _ (below_all content_cmp a (as_entries (before ++ x ∷ xs))) p)
    (below_between a before x y xs ys (second_true (is_lt (content_cmp a b)) _ p) (second_true (is_lt (content_cmp a b)) _ q))

-- the lesser of two firsts may come first
pub between : (before : List ContentValue) (x y : ContentValue) (xs ys : List ContentValue) → Rises (before ++ x ∷ xs) → Rises (before ++ y ∷ ys) → content_cmp x y ≡ Less → Rises (before ++ x ∷ y ∷ ys)
between [] x y xs ys p q less =
    both_true _ _ (both_true _ _ (ap is_lt less) (below_lesser content_cmp_total x y (as_entries ys) less (first_true _ (is_sorted content_cmp (as_entries ys)) q))) q
between (a ∷ before) x y xs ys p q less =
    both_true _ _
    (below_between a before x y xs ys (first_true _ (is_sorted content_cmp (as_entries (before ++ x ∷ xs))) p) (first_true _ (is_sorted content_cmp (as_entries (before ++ y ∷ ys))) q))
    (between before x y xs ys (second_true (below_all content_cmp a (as_entries (before ++ x ∷ xs))) _ p) (second_true (below_all content_cmp a (as_entries (before ++ y ∷ ys))) _ q) less)

pub regrouped : (before : List ContentValue) (x : ContentValue) (xs : List ContentValue) → (before ++ x ∷ []) ++ xs ≡ before ++ x ∷ xs
regrouped before x xs = append_assoc before (x ∷ []) xs

-- the sets of a list cut after its first
cons : (x : ContentValue) (xs : List ContentValue) → set_of (x ∷ xs) ≡ union (set_of (x ∷ [])) (set_of xs)
cons x xs = set_of-append (x ∷ []) xs

either-left : (a x xs r : Option (Unit {0})) → either (either a x) (either xs r) ≡ either a (either (either x xs) r)
either-left None None xs r = refl
either-left None (Some x) xs r = refl
either-left (Some a) x xs r = refl

either-right : (a l y ys : Option (Unit {0})) → either (either a y) (either l ys) ≡ either a (either l (either y ys))
either-right None None None ys = refl
either-right None None (Some y) ys = refl
either-right None (Some l) None ys = refl
either-right None (Some l) (Some y) ys = refl
either-right (Some a) l y ys = refl

either-both : (a x xs ys : Option (Unit {0})) → either (either a x) (either xs ys) ≡ either a (either (either x xs) (either x ys))
either-both None None xs ys = refl
either-both None (Some x) xs ys = refl
either-both (Some a) x xs ys = refl

module _ (a x xs r : Contents) where
  four : (q : ContentValue) → get (union (union a x) (union xs r)) q ≡ either (either (get a q) (get x q)) (either (get xs q) (get r q))
  four q = get-union (union a x) (union xs r) q ∙ (λ i. either (get-union a x q i) (get-union xs r q i))

  union-left : union (union a x) (union xs r) ≡ union a (union (union x xs) r)
  union-left = same _ _ (λ q. four q ∙ either-left (get a q) (get x q) (get xs q) (get r q)
      ∙ sym (get-union a (union (union x xs) r) q ∙ ap (either (get a q)) (get-union (union x xs) r q ∙ ap (λ o. either o (get r q)) (get-union x xs q))))

  union-right : union (union a x) (union xs r) ≡ union a (union xs (union x r))
  union-right = same _ _ (λ q. four q ∙ either-right (get a q) (get xs q) (get x q) (get r q)
      ∙ sym (get-union a (union xs (union x r)) q ∙ ap (either (get a q)) (get-union xs (union x r) q ∙ ap (either (get xs q)) (get-union x r q))))

  union-both : union (union a x) (union xs r) ≡ union a (union (union x xs) (union x r))
  union-both = same _ _ (λ q. four q ∙ either-both (get a q) (get x q) (get xs q) (get r q)
      ∙ sym (get-union a (union (union x xs) (union x r)) q ∙ ap (either (get a q)) (get-union (union x xs) (union x r) q ∙ (λ i. either (get-union x xs q i) (get-union x r q i)))))

module _ (all : List ContentValue) (x : ContentValue) (xs rest : List ContentValue) where
  -- the first of the left list is gathered
  pub take_left : union (set_of (all ++ x ∷ [])) (union (set_of xs) (set_of rest)) ≡ union (set_of all) (union (set_of (x ∷ xs)) (set_of rest))
  take_left = ap (λ s. union s (union (set_of xs) (set_of rest))) (set_of-append all (x ∷ [])) ∙ union-left (set_of all) (set_of (x ∷ [])) (set_of xs) (set_of rest)
      ∙ ap (λ s. union (set_of all) (union s (set_of rest))) (sym (cons x xs))

  -- the first of the right list is gathered
  pub take_right : union (set_of (all ++ x ∷ [])) (union (set_of rest) (set_of xs)) ≡ union (set_of all) (union (set_of rest) (set_of (x ∷ xs)))
  take_right = ap (λ s. union s (union (set_of rest) (set_of xs))) (set_of-append all (x ∷ [])) ∙ union-right (set_of all) (set_of (x ∷ [])) (set_of rest) (set_of xs)
      ∙ ap (λ s. union (set_of all) (union (set_of rest) s)) (sym (cons x xs))

  -- the same first of both lists is gathered once
  pub take_both : union (set_of (all ++ x ∷ [])) (union (set_of xs) (set_of rest)) ≡ union (set_of all) (union (set_of (x ∷ xs)) (set_of (x ∷ rest)))
  take_both = ap (λ s. union s (union (set_of xs) (set_of rest))) (set_of-append all (x ∷ [])) ∙ union-both (set_of all) (set_of (x ∷ [])) (set_of xs) (set_of rest)
      ∙ (λ i. union (set_of all) (union (sym (cons x xs) i) (sym (cons x rest) i)))

-- what is gathered lies before what is left of both lists, and all together are the contents of both
pub record MergedSoFar (all left right ours theirs : List ContentValue) : Type 0 where
  pub left_rises : Rises (all ++ left)
  pub right_rises : Rises (all ++ right)
  pub gathered : union (set_of all) (union (set_of left) (set_of right)) ≡ union (set_of ours) (set_of theirs)
  pub some : 0 < length all + length left

module _ (all ours theirs : List ContentValue) (x y : ContentValue) (xs ys : List ContentValue) (before : MergedSoFar all (x ∷ xs) (y ∷ ys) ours theirs) where
  pub step_less : content_cmp x y ≡ Less → MergedSoFar (all ++ x ∷ []) xs (y ∷ ys) ours theirs
  step_less less = record {
    left_rises = subst Rises (sym (regrouped all x xs)) before.left_rises;
    right_rises = subst Rises (sym (regrouped all x (y ∷ ys))) (between all x y xs ys before.left_rises before.right_rises less);
    gathered = take_left all x xs (y ∷ ys) ∙ before.gathered;
    some = omega (arith, length_push all x);
  }

  pub step_greater : content_cmp x y ≡ Greater → MergedSoFar (all ++ y ∷ []) (x ∷ xs) ys ours theirs
  step_greater greater = record {
    left_rises = subst Rises (sym (regrouped all y (x ∷ xs))) (between all y x ys xs before.right_rises before.left_rises (content_cmp_total.antisymm y x ∙ ap ordering_reverse greater));
    right_rises = subst Rises (sym (regrouped all y ys)) before.right_rises;
    gathered = take_right all y ys (x ∷ xs) ∙ before.gathered;
    some = omega (arith, length_push all y);
  }

  pub step_equal : content_cmp x y ≡ Equal → MergedSoFar (all ++ x ∷ []) xs ys ours theirs
  step_equal equal =
      let is : x ≡ y = content_cmp-exact x y equal in record {
        left_rises = subst Rises (sym (regrouped all x xs)) before.left_rises;
        right_rises = subst Rises (sym (regrouped all x ys)) (subst (λ (z : ContentValue). Rises (all ++ z ∷ ys)) (sym is) before.right_rises);
        gathered = take_both all x xs ys ∙ ap (λ (z : ContentValue). union (set_of all) (union (set_of (x ∷ xs)) (set_of (z ∷ ys)))) is ∙ before.gathered;
        some = omega (arith, length_push all x);
      }

-- what is gathered first
pub begun : (ours theirs : List ContentValue) → IsContents ours → IsContents theirs → MergedSoFar [] ours theirs ours theirs
begun ours theirs our_contents their_contents = record {
  left_rises = our_contents.rising;
  right_rises = their_contents.rising;
  gathered = union-empty (union (set_of ours) (set_of theirs));
  some = omega (arith, our_contents.some);
}

-- what is left is gathered at the end, where one of the lists is at its end
pub ended : (all left right ours theirs : List ContentValue) → MergedSoFar all left right ours theirs → set_of ((all ++ left) ++ right) ≡ union (set_of ours) (set_of theirs)
ended all left right ours theirs is =
    set_of-append (all ++ left) right ∙ ap (λ s. union s (set_of right)) (set_of-append all left) ∙ union-assoc (set_of all) (set_of left) (set_of right) ∙ is.gathered

pub ended_left : (all right ours theirs : List ContentValue) → MergedSoFar all [] right ours theirs → IsContents ((all ++ []) ++ right)
ended_left all right ours theirs is = record {
  rising = subst (λ (l : List ContentValue). Rises (l ++ right)) (sym (append-nil all)) is.right_rises;
  some = omega (arith, is.some, length-append (all ++ []) right, length-append {A = ContentValue});
}

-- a step as the loop makes it, with a copy of the first that it takes
module _ (all left right ours theirs : List ContentValue) (x y : ContentValue) (xs ys : List ContentValue) (lefts : left ≡ x ∷ xs) (rights : right ≡ y ∷ ys) (before : MergedSoFar all left right ours theirs) (new : List ContentValue) (copy : ContentValue) (pushed : new ≡ all ++ copy ∷ []) where
  apart : MergedSoFar all (x ∷ xs) (y ∷ ys) ours theirs
  apart = subst (λ (l : List ContentValue). MergedSoFar all l (y ∷ ys) ours theirs) lefts (subst (λ (r : List ContentValue). MergedSoFar all left r ours theirs) rights before)

  grown : (z : ContentValue) → copy ≡ z → all ++ z ∷ [] ≡ new
  grown z same = sym (pushed ∙ ap (λ (z : ContentValue). all ++ z ∷ []) same)

  pub loop_less : copy ≡ x → content_cmp x y ≡ Less → MergedSoFar new xs right ours theirs
  loop_less same less =
      subst (λ (n : List ContentValue). MergedSoFar n xs right ours theirs) (grown x same)
      (subst (λ (r : List ContentValue). MergedSoFar (all ++ x ∷ []) xs r ours theirs) (sym rights) (step_less all ours theirs x y xs ys apart less))

  pub loop_greater : copy ≡ y → content_cmp x y ≡ Greater → MergedSoFar new left ys ours theirs
  loop_greater same greater =
      subst (λ (n : List ContentValue). MergedSoFar n left ys ours theirs) (grown y same)
      (subst (λ (l : List ContentValue). MergedSoFar (all ++ y ∷ []) l ys ours theirs) (sym lefts) (step_greater all ours theirs x y xs ys apart greater))

  pub loop_equal : copy ≡ x → content_cmp x y ≡ Equal → MergedSoFar new xs ys ours theirs
  loop_equal same equal = subst (λ (n : List ContentValue). MergedSoFar n xs ys ours theirs) (grown x same) (step_equal all ours theirs x y xs ys apart equal)
