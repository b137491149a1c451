-- A join of the other's entries, one after another.
use Rattle.std.proofs.Common.{◌≡◌, ℕ, ◌+◌, ◌<◌, cond, List, [], ◌∷◌, ◌++◌, length, get_or, take, drop, Some, None, option_map, Ordering, Less, is_eq, refl, sym, ap, ◌∙◌, take-append-drop, Option}
use Rattle.std.proofs.lemmas.List.{take_more, drop_more}
use Rattle.std.specs.List.{AllByRecursion}
use Rattle.std.specs.Cmp.{IsTotalOrder}
use Rattle.std.specs.FinMap.{find}
use Rattle.std.specs.FinMap.Entries.{find-append, find-put}
use Rattle.pn_join.specs.Laws.{JoinLaws}
use Rattle.pn_join.specs.Tables.{contents_at, optional_joined, key_by_key, IsTable}
use Rattle.pn_join.proofs.Puts.{contents_at-put}
use Rattle.pn_join.proofs.Rising.{Rising, AllBelow, AllBelow-from_Rising, flipped, Rising-from_sorted}
use Rattle.pn_join.specs.Proofs.TableLaws.{key_by_key-laws}
use Rattle.pn_join.proofs.ListFacts.{each_back}

-- the entries joined so far, and one more
pub joined_more : {M : Type 0} {joined : M → M → M} → JoinLaws joined → (own part one done : M) {part' done' : M} → done' ≡ joined done one → done ≡ joined own part → part' ≡ joined part one → done' ≡ joined own part'
joined_more {joined = joined} laws own part one done step so_far more =
    step ∙ ap (λ a. joined a one) so_far ∙ laws.associates own part one ∙ ap (joined own) (sym more)

module _ {K X : Type 0} (cmp : K → K → Ordering) (o : IsTotalOrder cmp) where
  -- a key above all the entries' keys is at none of them
  not_found_above : (k : K) (es : List (K × X)) → AllByRecursion (λ e. cmp e.0 k ≡ Less) es → find cmp k es ≡ None
  not_found_above k [] h = refl
  not_found_above k (e ∷ es) h = ap (λ r. cond (is_eq r) (Some e.1) (find cmp k es)) (flipped o e.0 k h.0) ∙ not_found_above k es h.1

  below_next : (es : List (K × X)) (e : K × X) (fs : List (K × X)) → AllBelow cmp es (e ∷ fs) → AllByRecursion (λ x. cmp x.0 e.0 ≡ Less) es
  below_next [] e fs h = tt
  below_next (x ∷ es) e fs h = (h.0.0, below_next es e fs h.1)

  -- no key comes twice
  pub not_found_before : (es : List (K × X)) (e : K × X) (fs : List (K × X)) → Rising cmp (es ++ e ∷ fs) → find cmp e.0 es ≡ None
  not_found_before es e fs h = not_found_above e.0 es (below_next es e fs (AllBelow-from_Rising cmp es (e ∷ fs) h))

  split_at : (es : List (K × X)) (i : ℕ) (e : K × X) → i < length es → e ≡ get_or es i e → es ≡ take i es ++ e ∷ drop (i + 1) es
  split_at es i e within at = sym (take-append-drop i es) ∙ ap (λ fs. take i es ++ fs) (drop_more es i e within ∙ ap (λ x. x ∷ drop (i + 1) es) (sym at))

  pub not_found_yet : (es : List (K × X)) → Rising cmp es → (i : ℕ) (e : K × X) → i < length es → e ≡ get_or es i e → find cmp e.0 (take i es) ≡ None
  not_found_yet es h i e within at = not_found_before (take i es) e (drop (i + 1) es) (rw (split_at es i e within at) at h)

  module _ {M : Type 0} (meaning : X → M) (joined : M → M → M) where
    pub contents_at_push : (es : List (K × X)) (e : K × X) → find cmp e.0 es ≡ None → contents_at cmp meaning (es ++ e ∷ []) ≡ key_by_key joined (contents_at cmp meaning es) (contents_at cmp meaning (e ∷ []))
    contents_at_push es e none =
        (λ i q. option_map meaning ((find-append cmp o es e.0 e.1 q none ∙ sym (find-put cmp o q e.0 e.1 es)) i))
        ∙ contents_at-put cmp o meaning joined e.0 e.1 e.1 es (ap (λ x. optional_joined joined (option_map meaning x) (Some (meaning e.1))) (sym none))

    -- joining one more entry changes the contents by that entry
    pub contents_at_more : (es : List (K × X)) → Rising cmp es → (i : ℕ) (e : K × X) → i < length es → e ≡ get_or es i e → contents_at cmp meaning (take (i + 1) es) ≡ key_by_key joined (contents_at cmp meaning (take i es)) (contents_at cmp meaning (e ∷ []))
    contents_at_more es h i e within at =
        ap (contents_at cmp meaning) (take_more es i e within ∙ ap (λ x. take i es ++ x ∷ []) (sym at))
        ∙ contents_at_push (take i es) e (not_found_yet es h i e within at)

-- the entries joined so far, and the other's remaining entries
pub record JoinsSoFar {K C M : Type 0} (cmp : K → K → Ordering) (meaning : C → M) (joined : M → M → M) (valid : C → Type 0) (own other left now : List (K × C)) : Type 0 where
  pub done : List (K × C)
  pub parted : other ≡ done ++ left
  pub joins : contents_at cmp meaning now ≡ key_by_key joined (contents_at cmp meaning own) (contents_at cmp meaning done)

module _ {K C M : Type 0} (cmp : K → K → Ordering) (o : IsTotalOrder cmp) (meaning : C → M) (joined : M → M → M) (laws : JoinLaws joined) (valid : C → Type 0) (own other : List (K × C)) where
  alone : (a : Option M) → optional_joined joined a None ≡ a
  alone None = refl
  alone (Some a) = refl

  pub none_joined : JoinsSoFar cmp meaning joined valid own other other own
  none_joined = record {
    done = [];
    parted = refl;
    joins = λ j q. sym (alone (option_map meaning (find cmp q own))) j;
  }

  pub one_joined : IsTable cmp valid other → (e : K × C) (rest now next : List (K × C)) → JoinsSoFar cmp meaning joined valid own other (e ∷ rest) now → contents_at cmp meaning next ≡ key_by_key joined (contents_at cmp meaning now) (contents_at cmp meaning (e ∷ [])) → JoinsSoFar cmp meaning joined valid own other rest next
  one_joined table e rest now next h step =
      let new = not_found_before cmp o h.done e rest (rw h.parted at (Rising-from_sorted cmp other table.rising)) in
      record {
        done = h.done ++ e ∷ [];
        parted = h.parted ∙ append_split h.done;
        joins = joined_more (key_by_key-laws laws) (contents_at cmp meaning own) (contents_at cmp meaning h.done) (contents_at cmp meaning (e ∷ [])) (contents_at cmp meaning now) step h.joins (contents_at_push cmp o meaning joined h.done e new);
      } where
        append_split : (xs : List (K × C)) → xs ++ e ∷ rest ≡ (xs ++ e ∷ []) ++ rest
        append_split [] = refl
        append_split (x ∷ xs) = ap (λ ys. x ∷ ys) (append_split xs)

  pub valid_next : IsTable cmp valid other → (e : K × C) (rest now : List (K × C)) → JoinsSoFar cmp meaning joined valid own other (e ∷ rest) now → valid e.1
  valid_next table e rest now h = (each_back (λ x. valid x.1) h.done (e ∷ rest) (rw h.parted at table.contents)).0

  pub all_joined : (now : List (K × C)) → JoinsSoFar cmp meaning joined valid own other [] now → contents_at cmp meaning now ≡ key_by_key joined (contents_at cmp meaning own) (contents_at cmp meaning other)
  all_joined now h = h.joins ∙ ap (λ es. key_by_key joined (contents_at cmp meaning own) (contents_at cmp meaning es)) (sym (h.parted ∙ append_none h.done)) where
    append_none : (xs : List (K × C)) → xs ++ [] ≡ xs
    append_none [] = refl
    append_none (x ∷ xs) = ap (λ ys. x ∷ ys) (append_none xs)
