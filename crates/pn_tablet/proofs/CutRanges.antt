-- Ranges that follow one another from the first key to the last are those of a layout.
use Rattle.std.proofs.Common.{◌≡◌, ℕ, zero, suc, ◌+◌, ◌≤◌, Bool, true, false, not, cond, ◌&&◌, nat_lt, List, [], ◌∷◌, ◌++◌, map, length, slice_get, Option, Some, None, option_map, Result, Ok, Err, Ordering, Less, Equal, Greater, is_eq, is_lt, IsTrue, refl, sym, ap, ap₂, ◌∙◌, subst, arith, add-one}
use Rattle.std.proofs.lemmas.Bool.Decides.{nat_tests}
use Rattle.std.proofs.lemmas.Cmp.{nat_list_cmp_total}
use Rattle.std.proofs.lemmas.List.Sums.{sum_by-cons}
use Rattle.std.proofs.lemmas.Map.Text.{is_eq-slice_cmp}
use Rattle.std.proofs.lemmas.Slice.Eq.{bytes_eq-Decides}
use Rattle.std.specs.List.{AllByRecursion, range_with_len}
use Rattle.std.specs.List.Sorted.{IsStrictlySortedBy}
use Rattle.std.specs.Option.{option_cmp}
use Rattle.pn_json.specs.Answers.{◌>>=◌}
use Rattle.pn_record.proofs.Sorted.{is_less}
use Rattle.pn_record.specs.Sets.{bytes_cmp}
use Rattle.pn_tablet.specs.Layouts.{CutAllKeys, all_ends, begins_of, by_order, count_having, ends_open, follow_from, layout_with, Bounds, IsLayout, first_fall, layout_of, rising_layout, tablet_ends, Ends, are_ends, is_below, is_from}
use Rattle.pn_tablet.specs.declared.layout.CutFault.{CutFault}
use Rattle.pn_tablet.specs.declared.layout.CutFault.TheVariants.{TooMany}
use Rattle.pn_tablet.specs.declared.layout.LayoutFault.TheVariants as layout
use Rattle.pn_tablet.specs.declared.layout.TheConstants.{MAX_BOUNDS}
use Rattle.pn_tablet.proofs.LayoutFacts.{not_below}

-- the ranges one after another, where the first begins at an end
abbrev pub cuts : Option (List ℕ) → Bounds → List Ends
cuts from [] = (from, None) ∷ []
cuts from (b ∷ bs) = (from, Some b) ∷ cuts (Some b) bs

-- the ends of each range are in order
abbrev pub InOrder : List Ends → Type 0
InOrder ranges = AllByRecursion (λ range. IsTrue (are_ends range)) ranges

pub keys_same : (a b : List ℕ) → bytes_cmp a b ≡ Equal → a ≡ b
keys_same a b is = (bytes_eq-Decides a b).0 (sym (is_eq-slice_cmp a b) ∙ ap is_eq is)

pub ends_same : (p q : Option (List ℕ)) → option_cmp bytes_cmp p q ≡ Equal → p ≡ q
ends_same None None is = refl
ends_same None (Some b) is = cc
ends_same (Some a) None is = cc
ends_same (Some a) (Some b) is = ap Some (keys_same a b is)

order_ok : (o : Ordering) (from begin : Option (List ℕ)) (rest : Result (Unit {0}) CutFault) → (by_order o from begin >>= λ _. rest) ≡ Ok tt → (o ≡ Equal) × (rest ≡ Ok tt)
order_ok Less from begin rest is = cc
order_ok Equal from begin rest is = (refl, is)
order_ok Greater from begin rest is = cc

none_left : (ranges : List Ends) → ends_open ranges ≡ Ok tt → ranges ≡ []
none_left [] is = refl
none_left (range ∷ ranges) is = cc

begins-cons : (next : Ends) (rest : List Ends) (to : List ℕ) → next.0 ≡ Some to → begins_of (next ∷ rest) ≡ to ∷ begins_of rest
begins-cons (None, end) rest to is = cc
begins-cons (Some key, end) rest to is =
    let same : key ≡ to = cc in
    ap (λ (k : List ℕ). k ∷ begins_of rest) same

pub begins-append : (first later : List Ends) → begins_of (first ++ later) ≡ begins_of first ++ begins_of later
begins-append [] later = refl
begins-append ((None, end) ∷ first) later = begins-append first later
begins-append ((Some key, end) ∷ first) later = ap (λ (bounds : Bounds). key ∷ bounds) (begins-append first later)

pub begins-one : (range : Ends) → begins_of (range ∷ []) ≡ begins_of ((range.0, None) ∷ [])
begins-one (None, end) = refl
begins-one (Some key, end) = refl

-- ranges that follow one another begin where the first one does, and are cut at the keys at which the others begin
pub in_turn : (from : Option (List ℕ)) (range : Ends) (rest : List Ends) → follow_from from (range ∷ rest) ≡ Ok tt → (range.0 ≡ from) × (range ∷ rest ≡ cuts from (begins_of rest))
unfolding follow_from
in_turn from (begin, None) rest is =
    let both = order_ok (option_cmp bytes_cmp from begin) from begin (ends_open rest) is in
    let same : begin ≡ from = sym (ends_same from begin both.0) in
    let none = none_left rest both.1 in
    (same, ap₂ (λ (b : Option (List ℕ)) (l : List Ends). (b, None) ∷ l) same none ∙ ap (λ (l : List Ends). cuts from (begins_of l)) (sym none))
in_turn from (begin, Some to) [] is =
    let both = order_ok (option_cmp bytes_cmp from begin) from begin (follow_from (Some to) []) is in
    cc
in_turn from (begin, Some to) (next ∷ rest) is =
    let both = order_ok (option_cmp bytes_cmp from begin) from begin (follow_from (Some to) (next ∷ rest)) is in
    let same : begin ≡ from = sym (ends_same from begin both.0) in
    let later = in_turn (Some to) next rest both.1 in
    (same, ap₂ (λ (b : Option (List ℕ)) (l : List Ends). (b, Some to) ∷ l) same later.1 ∙ ap (cuts from) (sym (begins-cons next rest to later.0)))

-- the end is below all bounds
abbrev Follows : Option (List ℕ) → Bounds → Type 0
Follows None bs = Unit {0}
Follows (Some from) bs = AllByRecursion (λ other. bytes_cmp from other ≡ Less) bs

all_above : (a b : List ℕ) (bs : Bounds) → bytes_cmp a b ≡ Less → AllByRecursion (λ other. bytes_cmp b other ≡ Less) bs → AllByRecursion (λ other. bytes_cmp a other ≡ Less) bs
all_above a b [] less all = tt
all_above a b (c ∷ bs) less all = (nat_list_cmp_total.trans a b c less all.0, all_above a b bs less all.1)

follows_none : (from : Option (List ℕ)) → Follows from []
follows_none None = tt
follows_none (Some key) = tt

follows_more : (from : Option (List ℕ)) (b : List ℕ) (bs : Bounds) → are_ends (from, Some b) ≡ true → AllByRecursion (λ other. bytes_cmp b other ≡ Less) bs → Follows from (b ∷ bs)
follows_more None b bs order all = tt
follows_more (Some key) b bs order all =
    let less = is_less (bytes_cmp key b) order in
    (less, all_above key b bs less all)

-- bounds that cut ranges whose ends are in order rise
cuts_rise : (from : Option (List ℕ)) (bs : Bounds) → InOrder (cuts from bs) → IsStrictlySortedBy bytes_cmp bs × Follows from bs
unfolding IsStrictlySortedBy
cuts_rise from [] order = (tt, follows_none from)
cuts_rise from (b ∷ bs) order =
    let later = cuts_rise (Some b) bs order.1 in
    ((later.1, later.0), follows_more from b bs order.0 later.1)

no_fall : (bs : Bounds) → IsStrictlySortedBy bytes_cmp bs → first_fall bs ≡ None
unfolding IsStrictlySortedBy
no_fall [] rise = refl
no_fall (a ∷ []) rise = refl
no_fall (a ∷ b ∷ bs) rise =
    ap (λ (t : Bool). cond t (option_map suc (first_fall (b ∷ bs))) (Some 1)) (ap is_lt rise.0.0)
    ∙ ap (option_map suc) (no_fall (b ∷ bs) rise.1)

length_cuts : (from : Option (List ℕ)) (bs : Bounds) → length (cuts from bs) ≡ length bs + 1
length_cuts from [] = refl
length_cuts from (b ∷ bs) = omega (arith, length_cuts (Some b) bs)

-- all at once, of ranges that are there
pub record Cut (ranges : List Ends) : Type 0 where
  pub are : ranges ≡ cuts None (begins_of ranges)
  pub rise : IsStrictlySortedBy bytes_cmp (begins_of ranges)
  pub few : length ranges ≡ length (begins_of ranges) + 1

first_open : (range : Ends) (rest : List Ends) → range.0 ≡ None → begins_of (range ∷ rest) ≡ begins_of rest
first_open (None, end) rest is = refl
first_open (Some key, end) rest is = cc

pub cut : (ranges : List Ends) → follow_from None ranges ≡ Ok tt → InOrder ranges → Cut ranges
unfolding follow_from
cut [] is order = cc
cut (range ∷ rest) is order =
    let both = in_turn None range rest is in
    let are : range ∷ rest ≡ cuts None (begins_of (range ∷ rest)) = both.1 ∙ ap (cuts None) (sym (first_open range rest both.0)) in
    record {
      are = are;
      rise = (cuts_rise None (begins_of (range ∷ rest)) (subst InOrder are order)).0;
      few = ap length are ∙ length_cuts None (begins_of (range ∷ rest));
    }

-- at most 64 such ranges have a layout
pub fits : (ranges : List Ends) → Cut ranges → length ranges ≤ MAX_BOUNDS + 1 → layout_of (begins_of ranges) ≡ Ok (begins_of ranges)
fits ranges is few =
    let within : nat_lt MAX_BOUNDS (length (begins_of ranges)) ≡ false = within_by (length (begins_of ranges)) (omega (arith, is.few, few)) in
    ap (λ (t : Bool). cond t (Err layout.TooMany) (rising_layout (first_fall (begins_of ranges)) (begins_of ranges))) within
    ∙ ap (λ (o : Option ℕ). rising_layout o (begins_of ranges)) (no_fall (begins_of ranges) is.rise)
  where
    within_by : (n : ℕ) → n ≤ MAX_BOUNDS → nat_lt MAX_BOUNDS n ≡ false
    within_by n few = grind (arith, nat_tests)

-- a layout that was found is that of the ranges
pub record Found (ranges : List Ends) (bounds : Bounds) : Type 0 where
  pub few : length ranges ≤ MAX_BOUNDS + 1
  pub follow : follow_from None ranges ≡ Ok tt
  pub bounds_are : begins_of ranges ≡ bounds

then_bounds : (first : Result (Unit {0}) CutFault) (bs bounds : Bounds) → (first >>= λ _. Ok bs) ≡ Ok bounds → (first ≡ Ok tt) × (bs ≡ bounds)
then_bounds (Ok done) bs bounds is = (refl, cc)
then_bounds (Err fault) bs bounds is = cc

pub found : (ranges : List Ends) (bounds : Bounds) → layout_with ranges ≡ Ok bounds → Found ranges bounds
unfolding layout_with
found ranges bounds is =
    elim (nat_lt (MAX_BOUNDS + 1) (length ranges)) as (λ t. nat_lt (MAX_BOUNDS + 1) (length ranges) ≡ t → cond t (Err TooMany) (follow_from None ranges >>= λ _. Ok (begins_of ranges)) ≡ Ok bounds → Found ranges bounds) [
      | true ↦ λ many is. cc
      | false ↦ λ few is.
          let both = then_bounds (follow_from None ranges) (begins_of ranges) bounds is in
          record { few = grind (arith, nat_tests); follow = both.0; bounds_are = both.1 }
    ] refl is

-- the ranges of a layout's tablets are cut at its bounds
abbrev ends_at : Option (List ℕ) → Bounds → ℕ → Ends
ends_at from bs zero = (from, slice_get bs 0)
ends_at from bs (suc t) = (slice_get bs t, slice_get bs (suc t))

ends_later : (from : Option (List ℕ)) (b : List ℕ) (bs : Bounds) (t : ℕ) → ends_at from (b ∷ bs) (suc t) ≡ ends_at (Some b) bs t
ends_later from b bs zero = refl
ends_later from b bs (suc t) = refl

first_ends : (bs : Bounds) (t : ℕ) → tablet_ends bs t ≡ ends_at None bs t
first_ends bs zero = refl
first_ends bs (suc t) = refl

shifted : {A : Type 0} (f : ℕ → A) (a n : ℕ) → map f (range_with_len (a + 1) n) ≡ map (λ t. f (suc t)) (range_with_len a n)
shifted f a zero = refl
shifted f a (suc n) = λ i. f (add-one a i) ∷ shifted f (a + 1) n i

cut_at : (from : Option (List ℕ)) (bs : Bounds) → map (ends_at from bs) (range_with_len 0 (suc (length bs))) ≡ cuts from bs
cut_at from [] = refl
cut_at from (b ∷ bs) =
    ap (λ (rest : List Ends). (from, Some b) ∷ rest)
    (shifted (ends_at from (b ∷ bs)) 0 (suc (length bs))
    ∙ ap (λ (f : ℕ → Ends). map f (range_with_len 0 (suc (length bs)))) (λ i t. ends_later from b bs t i)
    ∙ cut_at (Some b) bs)

pub ends_are : (bs : Bounds) → all_ends bs ≡ cuts None bs
ends_are bs =
    ap (λ (f : ℕ → Ends). map f (range_with_len 0 (length bs + 1))) (λ i t. first_ends bs t i)
    ∙ ap (λ (n : ℕ). map (ends_at None bs) (range_with_len 0 n)) (add-one (length bs))
    ∙ cut_at None bs

-- ranges that are taken as a layout are its own
pub is_layout : (ranges : List Ends) (bounds : Bounds) → InOrder ranges → layout_with ranges ≡ Ok bounds → IsLayout bounds × (all_ends bounds ≡ ranges)
is_layout ranges bounds order is =
    let from = found ranges bounds is in
    let parts = cut ranges from.follow order in
    let lawful : IsLayout (begins_of ranges) = record { few = omega (arith, parts.few, from.few); rising = parts.rise } in
    (subst IsLayout from.bounds_are lawful, ap all_ends (sym from.bounds_are) ∙ ends_are (begins_of ranges) ∙ sym parts.are)

-- how many of the ranges that begin at an end have a key
abbrev once : Bool → ℕ
once t = cond t 1 0

one_of_two : (from : Option (List ℕ)) (b : List ℕ) (bs : Bounds) (key : List ℕ) (below : Bool) → is_below key b ≡ below → Follows from (b ∷ bs) → once (is_from from key && below) + once (not below) ≡ once (is_from from key)
one_of_two None b bs key true is follows = refl
one_of_two None b bs key false is follows = refl
one_of_two (Some f) b bs key true is follows = both (not (is_below key f)) where
  both : (t : Bool) → once (t && true) + 0 ≡ once t
  both true = refl
  both false = refl
one_of_two (Some f) b bs key false is follows =
    ap (λ (t : Bool). once (not t && false) + 1) above ∙ sym (ap (λ (t : Bool). once (not t)) above)
  where
    above : is_below key f ≡ false
    above = not_below key f b follows.0 is

counted : (from : Option (List ℕ)) (bs : Bounds) (key : List ℕ) → IsStrictlySortedBy bytes_cmp bs → Follows from bs → count_having (cuts from bs) key ≡ once (is_from from key)
unfolding IsStrictlySortedBy
counted from [] key rise follows = last (is_from from key) where
  last : (t : Bool) → 0 + once (t && true) ≡ once t
  last true = refl
  last false = refl
counted from (b ∷ bs) key rise follows =
    sum_by-cons _ (from, Some b) (cuts (Some b) bs)
    ∙ ap (λ (n : ℕ). once (is_from from key && is_below key b) + n) (counted (Some b) bs key rise.1 rise.0)
    ∙ one_of_two from b bs key (is_below key b) refl follows

-- each key is in exactly one of them
pub cut_keys : (ranges : List Ends) (bounds : Bounds) → InOrder ranges → layout_with ranges ≡ Ok bounds → CutAllKeys ranges
cut_keys ranges bounds order is key =
    let from = found ranges bounds is in
    let parts = cut ranges from.follow order in
    ap (λ (rs : List Ends). count_having rs key) parts.are ∙ counted None (begins_of ranges) key parts.rise tt
