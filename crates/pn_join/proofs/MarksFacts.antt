-- What marks reach, raised marks, and the lesser positions of two.
use Rattle.std.proofs.Common.{◌≡◌, ℕ, ◌≤◌, max, Bool, true, false, cond, T, List, [], ◌∷◌, Option, Some, None, option_map, unwrap_or, nat_lt, Less, Equal, Greater, is_eq, IsTrue, refl, sym, ap, ◌∙◌, subst, arith, zero-le, zero, suc, min, ◌++◌, Ordering, append_assoc}
use Rattle.std.proofs.lemmas.Bool.{and_parts, and_from, or_parts}
use Rattle.std.proofs.lemmas.Bool.Decides.{nat_tests}
use Rattle.std.proofs.lemmas.Cmp.{nat_list_cmp_total, tied_itself}
use Rattle.std.proofs.lemmas.Map.Lookups.{exact_bytes}
use Rattle.std.specs.List.{list_any, filter_map, cons_option}
use Rattle.std.specs.Ordering.{eq_by_cmp}
use Rattle.std.specs.FinMap.{find, put, is_sorted}
use Rattle.std.specs.FinMap.Entries.{by_order, find-put, find_tied, is_sorted-put, same_entries}
use Rattle.pn_join.specs.Marks.{Positions, is_position, are_positions, name_cmp, position_of, Reaches, falls_short, raised_marks, if_position, least_at, least_marks}
use Rattle.pn_join.specs.declared.marks.TheConstants.{LAST_POSITION}
use Rattle.pn_join.specs.Tables.{contents_at, optional_joined, key_by_key}
use Rattle.pn_join.proofs.Rising.{not_found_below, Below, Rising, AllBelow, Rising-from_sorted, sorted_from_Rising, Rising-prefix, AllBelow-from_Rising, flipped}
use Rattle.pn_join.proofs.Puts.{tie}
use Rattle.std.specs.Cmp.{IsTotalOrder}
use Rattle.std.specs.Option.{option_to_list}
use Rattle.pn_join.proofs.JoinSteps.{not_found_before}

is_so : (b : Bool) → T b → b ≡ true
is_so true h = refl
is_so false h = absurd h

greater : (o : Option ℕ) (n : ℕ) → Some (max (unwrap_or o 0) n) ≡ optional_joined max o (Some n)
greater None n = ap Some (omega arith)
greater (Some m) n = refl

unchanged : (o : Option ℕ) → o ≡ optional_joined max o None
unchanged None = refl
unchanged (Some m) = refl

joined_position : (a b : Option ℕ) → unwrap_or (optional_joined max a b) 0 ≡ max (unwrap_or a 0) (unwrap_or b 0)
joined_position None None = refl
joined_position None (Some n) = omega arith
joined_position (Some m) None = omega arith
joined_position (Some m) (Some n) = refl

joined_commutes : (a b : Option ℕ) → optional_joined max a b ≡ optional_joined max b a
joined_commutes None None = refl
joined_commutes None (Some n) = refl
joined_commutes (Some m) None = refl
joined_commutes (Some m) (Some n) = ap Some (omega arith)

joined_associates : (a b c : Option ℕ) → optional_joined max (optional_joined max a b) c ≡ optional_joined max a (optional_joined max b c)
joined_associates None b c = refl
joined_associates (Some m) None c = refl
joined_associates (Some m) (Some n) None = refl
joined_associates (Some m) (Some n) (Some k) = ap Some (omega arith)

joined_repeats : (a : Option ℕ) → optional_joined max a a ≡ a
joined_repeats None = refl
joined_repeats (Some m) = ap Some (omega arith)

-- the position of raised marks at a name
pub find-raised_marks : (a b : Positions) (name : List ℕ) → find name_cmp name (raised_marks a b) ≡ optional_joined max (find name_cmp name a) (find name_cmp name b)
find-raised_marks a [] name = unchanged (find name_cmp name a)
find-raised_marks a (e ∷ es) name =
    find-put name_cmp nat_list_cmp_total name e.0 (max (position_of a e.0) e.1) (raised_marks a es)
    ∙ elim (eq_by_cmp name_cmp name e.0) as (λ b. eq_by_cmp name_cmp name e.0 ≡ b → cond b (Some (max (position_of a e.0) e.1)) (find name_cmp name (raised_marks a es)) ≡ optional_joined max (find name_cmp name a) (cond b (Some e.1) (find name_cmp name es))) [
      | true ↦ λ p. greater (find name_cmp e.0 a) e.1 ∙ ap (λ o. optional_joined max o (Some e.1)) (find_tied name_cmp nat_list_cmp_total name e.0 (tie _ p) a)
      | false ↦ λ p. find-raised_marks a es name
    ] refl

-- each position is the greater of the two
pub position_of-raised_marks : (a b : Positions) (name : List ℕ) → position_of (raised_marks a b) name ≡ max (position_of a name) (position_of b name)
position_of-raised_marks a b name =
    ap (λ o. unwrap_or o 0) (find-raised_marks a b name) ∙ joined_position (find name_cmp name a) (find name_cmp name b)

-- raised marks have rising names
pub is_sorted-raised_marks : (a b : Positions) → IsTrue (is_sorted name_cmp a) → IsTrue (is_sorted name_cmp (raised_marks a b))
is_sorted-raised_marks a [] rising = rising
is_sorted-raised_marks a (e ∷ es) rising =
    is_so _ (is_sorted-put name_cmp nat_list_cmp_total e.0 (max (position_of a e.0) e.1) (raised_marks a es) (subst T (sym (is_sorted-raised_marks a es rising)) tt))

-- no position is greater than the last
pub within_most : (marks : Positions) (name : List ℕ) → IsTrue (are_positions marks) → position_of marks name ≤ LAST_POSITION
within_most [] name are = zero-le
within_most (e ∷ es) name are =
    let parts = and_parts (is_position e.1) (are_positions es) are in
    let here : e.1 ≤ LAST_POSITION = grind (arith, nat_tests) in
    elim (eq_by_cmp name_cmp name e.0) as (λ b. unwrap_or (cond b (Some e.1) (find name_cmp name es)) 0 ≤ LAST_POSITION) [
      | true ↦ here
      | false ↦ within_most es name parts.1
    ]

put_position : (name : List ℕ) (n : ℕ) (es : Positions) → IsTrue (is_position n) → IsTrue (are_positions es) → IsTrue (are_positions (put name_cmp name n es))
put_position name n [] is are = and_from _ _ is refl
put_position name n (e ∷ es) is are =
    let parts = and_parts (is_position e.1) (are_positions es) are in
    elim (name_cmp name e.0) as (λ r. are_positions (by_order r ((name, n) ∷ e ∷ es) ((e.0, n) ∷ es) (e ∷ put name_cmp name n es)) ≡ true) [
      | Less ↦ and_from _ _ is are
      | Equal ↦ and_from _ _ is parts.1
      | Greater ↦ and_from _ _ parts.0 (put_position name n es is parts.1)
    ]

-- raised marks have positions of messages
pub are_positions-raised_marks : (a b : Positions) → IsTrue (are_positions a) → IsTrue (are_positions b) → IsTrue (are_positions (raised_marks a b))
are_positions-raised_marks a [] are other = are
are_positions-raised_marks a (e ∷ es) are others =
    let parts = and_parts (is_position e.1) (are_positions es) others in
    let most : position_of a e.0 ≤ LAST_POSITION = within_most a e.0 are in
    let greater : IsTrue (is_position (max (position_of a e.0) e.1)) = grind (arith, nat_tests) in
    put_position e.0 (max (position_of a e.0) e.1) (raised_marks a es) greater (are_positions-raised_marks a es are parts.1)

-- marks with the same positions are the same
pub same_marks : (a b : Positions) → IsTrue (is_sorted name_cmp a) → IsTrue (is_sorted name_cmp b) → ((name : List ℕ) → find name_cmp name a ≡ find name_cmp name b) → a ≡ b
same_marks a b g h same =
    same_entries name_cmp nat_list_cmp_total (λ x y tied. exact_bytes x y tied) a b (subst T (sym g) tt) (subst T (sym h) tt) same

pub raised_marks-commutes : (a b : Positions) → IsTrue (is_sorted name_cmp a) → IsTrue (is_sorted name_cmp b) → raised_marks a b ≡ raised_marks b a
raised_marks-commutes a b g h =
    same_marks (raised_marks a b) (raised_marks b a) (is_sorted-raised_marks a b g) (is_sorted-raised_marks b a h)
    (λ name. find-raised_marks a b name ∙ joined_commutes (find name_cmp name a) (find name_cmp name b) ∙ sym (find-raised_marks b a name))

pub raised_marks-associates : (a b c : Positions) → IsTrue (is_sorted name_cmp a) → raised_marks (raised_marks a b) c ≡ raised_marks a (raised_marks b c)
raised_marks-associates a b c g =
    same_marks (raised_marks (raised_marks a b) c) (raised_marks a (raised_marks b c)) (is_sorted-raised_marks (raised_marks a b) c (is_sorted-raised_marks a b g)) (is_sorted-raised_marks a (raised_marks b c) g)
    (λ name. find-raised_marks (raised_marks a b) c name
    ∙ ap (λ o. optional_joined max o (find name_cmp name c)) (find-raised_marks a b name)
    ∙ joined_associates (find name_cmp name a) (find name_cmp name b) (find name_cmp name c)
    ∙ sym (find-raised_marks a (raised_marks b c) name ∙ ap (λ o. optional_joined max (find name_cmp name a) o) (find-raised_marks b c name)))

pub raised_marks-repeats : (a : Positions) → IsTrue (is_sorted name_cmp a) → raised_marks a a ≡ a
raised_marks-repeats a g =
    same_marks (raised_marks a a) a (is_sorted-raised_marks a a g) g
    (λ name. find-raised_marks a a name ∙ joined_repeats (find name_cmp name a))

option_map-same : (o : Option ℕ) → option_map (λ position. position) o ≡ o
option_map-same None = refl
option_map-same (Some n) = refl

-- a join of marks raises them
pub raised_from_joined : (old other new : Positions) → IsTrue (is_sorted name_cmp old) → IsTrue (is_sorted name_cmp new) → contents_at name_cmp (λ position. position) new ≡ key_by_key max (contents_at name_cmp (λ position. position) old) (contents_at name_cmp (λ position. position) other) → new ≡ raised_marks old other
raised_from_joined old other new g h is =
    same_marks new (raised_marks old other) h (is_sorted-raised_marks old other g)
    (λ name. sym (option_map-same (find name_cmp name new)) ∙ (λ i. is i name)
    ∙ (λ i. optional_joined max (option_map-same (find name_cmp name old) i) (option_map-same (find name_cmp name other) i))
    ∙ sym (find-raised_marks old other name))

-- if no entry of the need falls short, the need is reached
pub reached : (marks need : Positions) → list_any (falls_short marks) need ≡ false → Reaches marks need
reached marks [] none name = omega arith
reached marks (e ∷ es) none name =
    elim (eq_by_cmp name_cmp name e.0) as (λ b. eq_by_cmp name_cmp name e.0 ≡ b → unwrap_or (cond b (Some e.1) (find name_cmp name es)) 0 ≤ position_of marks name) [
      | true ↦ λ p.
          let same : position_of marks e.0 ≡ position_of marks name = ap (λ o. unwrap_or o 0) (find_tied name_cmp nat_list_cmp_total name e.0 (tie _ p) marks) in
          let here : nat_lt (position_of marks e.0) e.1 ≡ false = (or_parts _ _ none).0 in
          grind (arith, nat_tests)
      | false ↦ λ p. reached marks es (or_parts _ _ none).1 name
    ] refl

reached_rest : (marks : Positions) (e : List ℕ × ℕ) (es : Positions) → Below name_cmp e.0 es → Reaches marks (e ∷ es) → Reaches marks es
reached_rest marks e es below reach name =
    elim (eq_by_cmp name_cmp name e.0) as (λ b. eq_by_cmp name_cmp name e.0 ≡ b → unwrap_or (find name_cmp name es) 0 ≤ position_of marks name) [
      | true ↦ λ p.
          let absent : find name_cmp name es ≡ None = sym (find_tied name_cmp nat_list_cmp_total name e.0 (tie _ p) es) ∙ not_found_below name_cmp e.0 es below in
          subst (λ o. unwrap_or o 0 ≤ position_of marks name) (sym absent) zero-le
      | false ↦ λ p. subst (λ b. unwrap_or (cond b (Some e.1) (find name_cmp name es)) 0 ≤ position_of marks name) p (reach name)
    ] refl

-- if the need is reached, no entry of it falls short
pub none_short : (marks need : Positions) → Rising name_cmp need → Reaches marks need → list_any (falls_short marks) need ≡ false
none_short marks [] rising reach = refl
none_short marks (e ∷ es) rising reach =
    let here : e.1 ≤ position_of marks e.0 = subst (λ b. unwrap_or (cond b (Some e.1) (find name_cmp e.0 es)) 0 ≤ position_of marks e.0) (ap is_eq (tied_itself nat_list_cmp_total e.0)) (reach e.0) in
    let fits : nat_lt (position_of marks e.0) e.1 ≡ false = grind (arith, nat_tests) in
    rw fits (none_short marks es rising.1 (reached_rest marks e es rising.0 reach))

-- the lesser position at a name
abbrev lesser : Positions → Positions → List ℕ → ℕ
lesser a b name = min (position_of a name) (position_of b name)

-- the number where there is a mark, otherwise 0
abbrev where_there : Option ℕ → ℕ → ℕ
where_there None n = 0
where_there (Some m) n = n

nowhere : (o : Option ℕ) → where_there o 0 ≡ 0
nowhere None = refl
nowhere (Some m) = refl

least_of_own : (o : Option ℕ) (n : ℕ) → where_there o (min (unwrap_or o 0) n) ≡ min (unwrap_or o 0) n
least_of_own None n = omega arith
least_of_own (Some m) n = refl

module _ (a b : Positions) where
  lesser_tied : (x y : List ℕ) → name_cmp x y ≡ Equal → lesser a b y ≡ lesser a b x
  lesser_tied x y tied =
      ap (λ o. min (unwrap_or o 0) (position_of b y)) (find_tied name_cmp nat_list_cmp_total x y tied a)
      ∙ ap (λ o. min (position_of a x) (unwrap_or o 0)) (find_tied name_cmp nat_list_cmp_total x y tied b)

  position_more : (n : ℕ) (e : List ℕ × ℕ) (es rest : Positions) (name : List ℕ) → lesser a b e.0 ≡ n → position_of rest name ≡ where_there (find name_cmp name es) (lesser a b name) → position_of (cons_option (if_position e.0 n) rest) name ≡ where_there (find name_cmp name (e ∷ es)) (lesser a b name)
  position_more zero e es rest name at is =
      elim (eq_by_cmp name_cmp name e.0) as (λ t. eq_by_cmp name_cmp name e.0 ≡ t → position_of rest name ≡ where_there (cond t (Some e.1) (find name_cmp name es)) (lesser a b name)) [
        | true ↦ λ p.
            let none : lesser a b name ≡ 0 = sym (lesser_tied name e.0 (tie _ p)) ∙ at in
            is ∙ ap (where_there (find name_cmp name es)) none ∙ nowhere (find name_cmp name es) ∙ sym none
        | false ↦ λ p. is
      ] refl
  position_more (suc n) e es rest name at is =
      elim (eq_by_cmp name_cmp name e.0) as (λ t. eq_by_cmp name_cmp name e.0 ≡ t → unwrap_or (cond t (Some (suc n)) (find name_cmp name rest)) 0 ≡ where_there (cond t (Some e.1) (find name_cmp name es)) (lesser a b name)) [
        | true ↦ λ p. sym at ∙ lesser_tied name e.0 (tie _ p)
        | false ↦ λ p. is
      ] refl

  position_in : (es : Positions) (name : List ℕ) → position_of (filter_map (least_at a b) es) name ≡ where_there (find name_cmp name es) (lesser a b name)
  position_in [] name = refl
  position_in (e ∷ es) name = position_more (lesser a b e.0) e es (filter_map (least_at a b) es) name refl (position_in es name)

  -- each position is the lesser of the two
  pub position_of-least_marks : (name : List ℕ) → position_of (least_marks a b) name ≡ min (position_of a name) (position_of b name)
  position_of-least_marks name = position_in a name ∙ least_of_own (find name_cmp name a) (position_of b name)

  below_more : (n : ℕ) (k name : List ℕ) (es : Positions) → name_cmp k name ≡ Less → Below name_cmp k es → Below name_cmp k (cons_option (if_position name n) es)
  below_more zero k name es less below = below
  below_more (suc n) k name es less below = (less, below)

  below_least : (k : List ℕ) (es : Positions) → Below name_cmp k es → Below name_cmp k (filter_map (least_at a b) es)
  below_least k [] below = tt
  below_least k (e ∷ es) below = below_more (lesser a b e.0) k e.0 _ below.0 (below_least k es below.1)

  rising_more : (n : ℕ) (name : List ℕ) (es : Positions) → Below name_cmp name es → Rising name_cmp es → Rising name_cmp (cons_option (if_position name n) es)
  rising_more zero name es below rising = rising
  rising_more (suc n) name es below rising = (below, rising)

  rising_least : (es : Positions) → Rising name_cmp es → Rising name_cmp (filter_map (least_at a b) es)
  rising_least [] rising = tt
  rising_least (e ∷ es) rising = rising_more (lesser a b e.0) e.0 _ (below_least e.0 es rising.0) (rising_least es rising.1)

  -- what rises goes on rising
  pub is_sorted-least_marks : IsTrue (is_sorted name_cmp a) → IsTrue (is_sorted name_cmp (least_marks a b))
  is_sorted-least_marks rising = sorted_from_Rising name_cmp _ (rising_least a (Rising-from_sorted name_cmp a rising))

  positions_more : (n : ℕ) (name : List ℕ) (es : Positions) → n ≤ LAST_POSITION → IsTrue (are_positions es) → IsTrue (are_positions (cons_option (if_position name n) es))
  positions_more zero name es most are = are
  positions_more (suc n) name es most are =
      let is : is_position (suc n) ≡ true = grind (arith, nat_tests) in
      and_from _ _ is are

  positions_least : (es : Positions) → IsTrue (are_positions a) → IsTrue (are_positions (filter_map (least_at a b) es))
  positions_least [] are = refl
  positions_least (e ∷ es) are = positions_more (lesser a b e.0) e.0 _ (omega (arith, within_most a e.0 are)) (positions_least es are)

  -- positions stay those of messages
  pub are_positions-least_marks : IsTrue (are_positions a) → IsTrue (are_positions (least_marks a b))
  are_positions-least_marks are = positions_least a are

module _ {K X : Type 0} (cmp : K → K → Ordering) (o : IsTotalOrder cmp) (key : K) (v : X) where
  put_last : (es : List (K × X)) → AllBelow cmp es ((key, v) ∷ []) → put cmp key v es ≡ es ++ (key, v) ∷ []
  put_last [] below = refl
  put_last (e ∷ es) below =
      ap (λ r. by_order r ((key, v) ∷ e ∷ es) ((e.0, v) ∷ es) (e ∷ put cmp key v es)) (flipped o e.0 key below.0.0)
      ∙ ap (λ rest. e ∷ rest) (put_last es below.1)

-- a name after all others is raised at the end
pub raised_last : (marks : Positions) (name : List ℕ) (n : ℕ) → IsTrue (is_sorted name_cmp (marks ++ (name, n) ∷ [])) → raised_marks marks ((name, n) ∷ []) ≡ marks ++ (name, n) ∷ []
raised_last marks name n rising =
    let rise : Rising name_cmp (marks ++ (name, n) ∷ []) = Rising-from_sorted name_cmp _ rising in
    let more : max 0 n ≡ n = omega arith in
    ap (λ o. put name_cmp name (max (unwrap_or o 0) n) marks) (not_found_before name_cmp nat_list_cmp_total marks (name, n) [] rise)
    ∙ ap (λ m. put name_cmp name m marks) more
    ∙ put_last name_cmp nat_list_cmp_total name n marks (AllBelow-from_Rising name_cmp marks ((name, n) ∷ []) rise)

-- a position that is not 0 makes a mark
pub mark_there : (name : List ℕ) (n : ℕ) → (n ≡ 0 → ⊥) → if_position name n ≡ Some (name, n)
mark_there name zero some = absurd (some refl)
mark_there name (suc n) some = refl

cons_there : {A : Type 0} (o : Option A) (xs : List A) → cons_option o xs ≡ option_to_list o ++ xs
cons_there None xs = refl
cons_there (Some x) xs = refl

-- what is found so far, and one mark more
pub least_more : (a b : Positions) (e : List ℕ × ℕ) (es both : Positions) → both ++ filter_map (least_at a b) (e ∷ es) ≡ least_marks a b → (both ++ option_to_list (least_at a b e)) ++ filter_map (least_at a b) es ≡ least_marks a b
least_more a b e es both is =
    append_assoc both (option_to_list (least_at a b e)) (filter_map (least_at a b) es)
    ∙ ap (λ rest. both ++ rest) (sym (cons_there (least_at a b e) (filter_map (least_at a b) es))) ∙ is

-- the next mark comes after all that are found so far
pub least_rises : (a b : Positions) (e : List ℕ × ℕ) (es both : Positions) → IsTrue (is_sorted name_cmp a) → both ++ filter_map (least_at a b) (e ∷ es) ≡ least_marks a b → IsTrue (is_sorted name_cmp (both ++ option_to_list (least_at a b e)))
least_rises a b e es both rising is =
    let whole : Rising name_cmp ((both ++ option_to_list (least_at a b e)) ++ filter_map (least_at a b) es) = rw (least_more a b e es both is) (Rising-from_sorted name_cmp _ (is_sorted-least_marks a b rising)) in
    sorted_from_Rising name_cmp (both ++ option_to_list (least_at a b e)) (Rising-prefix name_cmp (both ++ option_to_list (least_at a b e)) (filter_map (least_at a b) es) whole)
