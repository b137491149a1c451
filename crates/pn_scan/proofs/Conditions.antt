-- Conditions among values, looked at one after another, as entries are for a key.
use Rattle.std.proofs.Common.{◌≡◌, ℕ, zero, suc, ◌+◌, ◌<◌, ◌≤◌, get_or, take, Bool, true, false, ◌&&◌, nat_le, IsTrue, List, [], ◌∷◌, ◌++◌, length, Option, Some, None, is_some, option_map, IfSome, map, Result, Ok, Err, refl, sym, ap, ◌∙◌, arith, drop, cond, Ordering}
use Rattle.std.specs.List.{list_all}
use Rattle.std.specs.Option.{ok_or, option_to_list, MatchOption}
use Rattle.std.proofs.Math.Bool.{and_assoc, and-true}
use Rattle.std.proofs.lemmas.Bool.{and_parts}
use Rattle.std.proofs.lemmas.Grind.{flat_map-append}
use Rattle.std.proofs.lemmas.List.{take_all, take_more, at_drop_more, at_drop_all, get_or-map, length-map, map-append}
use Rattle.std.specs.FinMap.{find}
use Rattle.std.specs.Ordering.{eq_by_cmp}
use Rattle.serde_json.specs.View.{view, items_view}
use Rattle.serde_json.specs.declared.value.Value.{Value}
use Rattle.pn_json.specs.Answers.{◌>>=◌}
use Rattle.pn_json.specs.Members.{each_in}
use Rattle.pn_scan.specs.Queries.{ConditionValue, OwnCondition, is_condition, shown_condition}
use Rattle.pn_scan.specs.declared.query.TheConstants.{MAX_CONDITIONS}
use Rattle.pn_scan.specs.QueryReading.{condition_in, condition_at, lone_in, comparing_in, conditions_among, are_conditions, may_fit, all_fit, AreParsed}
use Rattle.pn_scan.specs.declared.query_json.QueryFault.{QueryFault}
use Rattle.pn_scan.specs.declared.query_json.QueryFault.TheVariants.{BadShape}

-- The conditions among values, where all values are conditions.

-- the condition that a value may be
abbrev spelled : Value → Option ConditionValue
spelled value = condition_in (view value)

-- what is read of a value, before the rest
abbrev before : Option ConditionValue → Result (List ConditionValue) QueryFault → Result (List ConditionValue) QueryFault
before o rest = ok_or o BadShape >>= (λ c. rest >>= (λ cs. Ok (c ∷ cs)))

read_step : (o : Option ConditionValue) (rest : Result (List ConditionValue) QueryFault) (cs : List ConditionValue) → is_some o ≡ true → rest ≡ Ok cs → before o rest ≡ Ok (option_to_list o ++ cs)
read_step None rest cs some is = absurd (cc)
read_step (Some c) rest cs some is = rw is refl

-- values that are all conditions are read as the conditions among them
pub all_read : (values : List Value) → are_conditions values ≡ true → each_in condition_at (items_view values) ≡ Ok (conditions_among values)
all_read [] all = refl
all_read (value ∷ values) all =
    let parts = and_parts (is_some (spelled value)) (are_conditions values) all in
    read_step (spelled value) (each_in condition_at (items_view values)) (conditions_among values) parts.0 (all_read values parts.1)

unread_step : (o : Option ConditionValue) (rest : Result (List ConditionValue) QueryFault) (b : Bool) → (is_some o && b) ≡ false → (b ≡ false → rest ≡ Err BadShape) → before o rest ≡ Err BadShape
unread_step None rest b some bad = refl
unread_step (Some c) rest true some bad = absurd (cc)
unread_step (Some c) rest false some bad = rw (bad refl) refl

-- values that are not all conditions are of a wrong shape
pub not_all_read : (values : List Value) → are_conditions values ≡ false → each_in condition_at (items_view values) ≡ Err BadShape
not_all_read [] all = absurd (cc)
not_all_read (value ∷ values) all =
    unread_step (spelled value) (each_in condition_at (items_view values)) (are_conditions values) all (λ rest. not_all_read values rest)

count_step : (o : Option ConditionValue) (cs : List ConditionValue) (n : ℕ) → is_some o ≡ true → length cs ≡ n → length (option_to_list o ++ cs) ≡ n + 1
count_step None cs n some is = absurd (cc)
count_step (Some c) cs n some is = omega (arith, is)

-- the number of conditions is that of values
pub all_counted : (values : List Value) → are_conditions values ≡ true → length (conditions_among values) ≡ length values
all_counted [] all = refl
all_counted (value ∷ values) all =
    let parts = and_parts (is_some (spelled value)) (are_conditions values) all in
    omega (arith, count_step (spelled value) (conditions_among values) (length values) parts.0 (all_counted values parts.1))

fit_step : (o : Option ConditionValue) (cs : List ConditionValue) → (may_fit o && list_all is_condition cs) ≡ list_all is_condition (option_to_list o ++ cs)
fit_step None cs = refl
fit_step (Some c) cs = refl

-- the conditions fit where each value does, if it is one
all_fitting : (values : List Value) → all_fit values ≡ list_all is_condition (conditions_among values)
all_fitting [] = refl
all_fitting (value ∷ values) = ap (λ b. may_fit (spelled value) && b) (all_fitting values) ∙ fit_step (spelled value) (conditions_among values)

-- values that are all conditions keep the limits where the conditions do
pub fit_all : (values : List Value) (among : List ConditionValue) → among ≡ conditions_among values → IsTrue (are_conditions values)
    → (nat_le (length values) MAX_CONDITIONS && all_fit values) ≡ (nat_le (length among) MAX_CONDITIONS && list_all is_condition among)
fit_all values among is all =
    let count : length values ≡ length among = sym (ap length is ∙ all_counted values all) in
    let fit : all_fit values ≡ list_all is_condition among = all_fitting values ∙ ap (list_all is_condition) (sym is) in
    λ i. nat_le (count i) MAX_CONDITIONS && fit i

-- ---- one value after another

none_after : (b : Bool) → (b && false) ≡ false
none_after true = refl
none_after false = refl

-- where one value is no condition, not all are
pub bad_at : (values : List Value) (i : ℕ) (value : Value) → value ≡ get_or values i value → i < length values → spelled value ≡ None → are_conditions values ≡ false
bad_at [] i value is within none = absurd (omega (arith, within))
bad_at (first ∷ values) zero value is within none = ap (λ o. is_some o && are_conditions values) (ap spelled (sym is) ∙ none)
bad_at (first ∷ values) (suc i) value is within none = ap (λ b. is_some (spelled first) && b) (bad_at values i value is (omega (arith, within)) none) ∙ none_after (is_some (spelled first))

all_push : (test : Value → Bool) (values : List Value) (value : Value) → list_all test (values ++ value ∷ []) ≡ (list_all test values && test value)
all_push test [] value = and-true (test value)
all_push test (first ∷ values) value = ap (λ b. test first && b) (all_push test values value) ∙ sym (and_assoc (test first) (list_all test values) (test value))

module _ (values : List Value) (i : ℕ) (value : Value) (c : ConditionValue) (here : value ≡ get_or values i value) (within : i < length values) (is : spelled value ≡ Some c) where
  more : take (i + 1) values ≡ take i values ++ value ∷ []
  more = take_more values i value within ∙ ap (λ v. take i values ++ v ∷ []) (sym here)

  -- one value more is a condition
  pub one_more_is : are_conditions (take i values) ≡ true → are_conditions (take (i + 1) values) ≡ true
  one_more_is all =
      ap are_conditions more ∙ all_push (λ v. is_some (spelled v)) (take i values) value
      ∙ (λ j. all j && is_some (is j))

  -- which keeps its limits, or not
  pub one_more_fits : (few fit : Bool) → fit ≡ (few && all_fit (take i values)) → (fit && is_condition c) ≡ (few && all_fit (take (i + 1) values))
  one_more_fits few fit so_far =
      ap (λ b. b && is_condition c) so_far ∙ and_assoc few (all_fit (take i values)) (is_condition c)
      ∙ ap (λ o. few && (all_fit (take i values) && may_fit o)) (sym is)
      ∙ ap (λ b. few && b) (sym (ap all_fit more ∙ all_push (λ v. may_fit (spelled v)) (take i values) value))

  -- and comes after the others
  pub one_more_among : conditions_among (take (i + 1) values) ≡ conditions_among (take i values) ++ c ∷ []
  one_more_among =
      ap conditions_among more ∙ flat_map-append (λ v. option_to_list (spelled v)) (take i values) (value ∷ [])
      ∙ ap (λ o. conditions_among (take i values) ++ (option_to_list o ++ [])) is

  -- those that were made so far, and then this one
  pub one_more_shown : {V : Type 0} (items : V → List OwnCondition) (made more : Option V) → IfSome made (λ some. map shown_condition (items some) ≡ conditions_among (take i values))
      → IfSome more (λ all. MatchOption made ⊥ (λ some. map shown_condition (items all) ≡ map shown_condition (items some) ++ c ∷ []))
      → IfSome more (λ all. map shown_condition (items all) ≡ conditions_among (take (i + 1) values))
  one_more_shown items made None so_far one = tt
  one_more_shown items None (Some all) so_far one = absurd one
  one_more_shown items (Some some) (Some all) so_far one = one ∙ ap (λ cs. cs ++ c ∷ []) so_far ∙ sym one_more_among

-- at the end
pub same_parsed : {V : Type 0} (items : V → List OwnCondition) (values : List Value) (i : ℕ) (fit : Bool) (made : Option V) → length values ≤ i → are_conditions (take i values) ≡ true
    → fit ≡ (nat_le (length values) MAX_CONDITIONS && all_fit (take i values)) → IfSome made (λ some. map shown_condition (items some) ≡ conditions_among (take i values))
    → AreParsed values fit (option_map items made)
same_parsed {V = V} items values i fit made past all fits shown =
    let whole = take_all i values past in
    record {
      all = ap are_conditions (sym whole) ∙ all;
      fits = fits ∙ ap (λ vs. nat_le (length values) MAX_CONDITIONS && all_fit vs) whole;
      shown = shown_all made shown whole;
    } where
      shown_all : (made : Option V) → IfSome made (λ some. map shown_condition (items some) ≡ conditions_among (take i values)) → take i values ≡ values
          → IfSome (option_map items made) (λ cs. map shown_condition cs ≡ conditions_among values)
      shown_all None shown whole = tt
      shown_all (Some some) shown whole = shown ∙ ap conditions_among whole

-- Arrays of a wrong number of parts are no conditions.

pub lone_few : (values : List Value) → length values < 2 → lone_in (items_view values) ≡ None
lone_few [] few = refl
lone_few (a ∷ []) few = refl
lone_few (a ∷ b ∷ rest) few = absurd (omega arith)

pub lone_many : (values : List Value) → 3 ≤ length values → lone_in (items_view values) ≡ None
lone_many [] many = absurd (omega arith)
lone_many (a ∷ []) many = absurd (omega arith)
lone_many (a ∷ b ∷ []) many = absurd (omega arith)
lone_many (a ∷ b ∷ c ∷ rest) many = refl

pub comparing_few : (values : List Value) → length values < 3 → comparing_in (items_view values) ≡ None
comparing_few [] few = refl
comparing_few (a ∷ []) few = refl
comparing_few (a ∷ b ∷ []) few = refl
comparing_few (a ∷ b ∷ c ∷ rest) few = absurd (omega arith)

pub comparing_many : (values : List Value) → 4 ≤ length values → comparing_in (items_view values) ≡ None
comparing_many [] many = absurd (omega arith)
comparing_many (a ∷ []) many = absurd (omega arith)
comparing_many (a ∷ b ∷ []) many = absurd (omega arith)
comparing_many (a ∷ b ∷ c ∷ []) many = absurd (omega arith)
comparing_many (a ∷ b ∷ c ∷ d ∷ rest) many = refl

-- Conditions that are looked at one after another.

module _ {X Y : Type 0} (p : Y → Bool) (g : X → Y) (xs : List X) where
  -- those from an index on all pass
  abbrev pub rest : ℕ → Bool
  rest n = list_all p (map g (drop n xs))

  module _ (i : ℕ) (x : X) (here : x ≡ get_or xs i x) (inside : i < length xs) where
    step : rest i ≡ (p (g x) && rest (i + 1))
    step = at_drop_more (λ (l : List X). list_all p (map g l)) xs i x inside ∙ ap (λ (y : X). p (g y) && rest (i + 1)) (sym here)

    pub one_fails : p (g x) ≡ false → false ≡ rest i
    one_fails fails = sym (step ∙ ap (λ b. b && rest (i + 1)) fails)

    pub one_passes : p (g x) ≡ true → rest (i + 1) ≡ rest i
    one_passes passes = sym (step ∙ ap (λ b. b && rest (i + 1)) passes)

  pub all_passed : (i : ℕ) → length xs ≤ i → true ≡ rest i
  all_passed i past = sym (at_drop_all (λ (l : List X). list_all p (map g l)) xs i past)

-- Entries that are looked at one after another for a key.

module _ {X K V : Type 0} (cmp : K → K → Ordering) (key : K) (g : X → K × V) (xs : List X) where
  -- what is found from an index on
  abbrev pub found_in_rest : ℕ → Option V
  found_in_rest n = find cmp key (map g (drop n xs))

  module _ (i : ℕ) (x : X) (here : x ≡ get_or xs i x) (inside : i < length xs) where
    look_step : found_in_rest i ≡ cond (eq_by_cmp cmp key (g x).0) (Some (g x).1) (found_in_rest (i + 1))
    look_step = at_drop_more (λ (l : List X). find cmp key (map g l)) xs i x inside ∙ ap (λ (y : X). cond (eq_by_cmp cmp key (g y).0) (Some (g y).1) (found_in_rest (i + 1))) (sym here)

    pub one_found : eq_by_cmp cmp key (g x).0 ≡ true → Some (g x).1 ≡ found_in_rest i
    one_found ties = sym (look_step ∙ ap (λ b. cond b (Some (g x).1) (found_in_rest (i + 1))) ties)

    pub one_passed : eq_by_cmp cmp key (g x).0 ≡ false → found_in_rest (i + 1) ≡ found_in_rest i
    one_passed differs = sym (look_step ∙ ap (λ b. cond b (Some (g x).1) (found_in_rest (i + 1))) differs)

  pub none_left : (i : ℕ) → length xs ≤ i → None ≡ found_in_rest i
  none_left i past = sym (at_drop_all (λ (l : List X). find cmp key (map g l)) xs i past)

-- Copies that are made one by one.

module _ {Y X : Type 0} (f : Y → X) (ys : List Y) (i : ℕ) (y : Y) (here : y ≡ get_or ys i y) (inside : i < length ys) where
  within : i < length (map f ys)
  within = omega (arith, length-map ys f)

  -- a list that shows the same as the first elements, after one more
  pub shown_more : {Z : Type 0} (g : Z → X) (zs : List Z) (z : Z) → map g zs ≡ take i (map f ys) → g z ≡ f y → map g (zs ++ z ∷ []) ≡ take (i + 1) (map f ys)
  shown_more g zs z so_far one =
      let at_i : get_or (map f ys) i (f y) ≡ f y = get_or-map f ys i y (f y) inside ∙ ap f (sym here) in
      map-append g zs (z ∷ []) ∙ (λ j. so_far j ++ (one ∙ sym at_i) j ∷ []) ∙ sym (take_more (map f ys) i (f y) within)

  -- and a copy
  pub copied_more : (zs : List Y) (z : Y) → map f zs ≡ take i (map f ys) → f z ≡ f y → map f (zs ++ z ∷ []) ≡ take (i + 1) (map f ys)
  copied_more zs z so_far one = shown_more f zs z so_far one
