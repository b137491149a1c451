-- Ranges that stand in the order of their beginnings, and which keys come before them.
use Rattle.std.proofs.Common.{◌≡◌, ℕ, suc, ◌+◌, Bool, true, false, not, cond, ◌&&◌, List, [], ◌∷◌, slice_index_or, Option, Some, None, Result, Ordering, Less, Equal, Greater, is_lt, refl, sym, ap, ap₂, ◌∙◌, subst, arith}
use Rattle.std.proofs.lemmas.Cmp.{nat_list_cmp_total}
use Rattle.std.proofs.lemmas.List.Sums.{sum_by-cons}
use Rattle.std.specs.List.{AllByRecursion}
use Rattle.std.specs.Option.{option_cmp}
use Rattle.std.specs.Ordering.{ordering_reverse}
use Rattle.pn_json.specs.Answers.{◌>>=◌}
use Rattle.pn_record.proofs.Sorted.{is_less}
use Rattle.pn_record.specs.Sets.{bytes_cmp}
use Rattle.pn_tablet.specs.Layouts.{BeginInOrder, IsNoEmpty, begin_of, by_order, count_having, Ends, are_ends, in_range, is_before, is_below, is_from}
use Rattle.pn_tablet.specs.declared.layout.CutFault.{CutFault}
use Rattle.pn_tablet.proofs.CutRanges.{keys_same}
use Rattle.pn_tablet.proofs.LayoutFacts.{not_below}

-- no end is an empty text
abbrev pub Keyed : List Ends → Type 0
Keyed ranges = AllByRecursion (λ range. IsNoEmpty range.0 × IsNoEmpty range.1) ranges

-- no range begins before the one that stands before it, one by one
abbrev pub InTurnOrder : List Ends → Type 0
InTurnOrder [] = Unit {0}
InTurnOrder (r ∷ []) = Unit {0}
InTurnOrder (r ∷ n ∷ rs) = (is_lt (option_cmp bytes_cmp n.0 r.0) ≡ false) × InTurnOrder (n ∷ rs)

pub ordered : (rs : List Ends) → BeginInOrder rs → InTurnOrder rs
ordered [] is = tt
ordered (r ∷ []) is = tt
ordered (r ∷ n ∷ rs) is = (is 0 r (omega arith) (omega arith), ordered (n ∷ rs) later) where
  -- an index past the first is one less among the others
  later : BeginInOrder (n ∷ rs)
  later k d low lt =
      let more : suc k + 1 ≡ suc (k + 1) = omega arith in
      subst (λ (j : ℕ). is_lt (option_cmp bytes_cmp (slice_index_or (r ∷ n ∷ rs) j d).0 (slice_index_or (n ∷ rs) k d).0) ≡ false) more
      (is (suc k) d (omega arith) (omega (arith, lt)))

-- the key is below where the range begins
abbrev pub Past : List ℕ → Ends → Type 0
Past key r = is_from r.0 key ≡ false

pub none_has : (key : List ℕ) (r : Ends) → Past key r → in_range r key ≡ false
none_has key r past = ap (λ (b : Bool). b && is_before r.1 key) past

pub count-cons : (r : Ends) (rs : List Ends) (key : List ℕ) → count_having (r ∷ rs) key ≡ cond (in_range r key) 1 0 + count_having rs key
count-cons r rs key = sum_by-cons _ r rs

pub all_past : (key : List ℕ) (rs : List Ends) → AllByRecursion (Past key) rs → count_having rs key ≡ 0
all_past key [] past = refl
all_past key (r ∷ rs) past =
    count-cons r rs key ∙ ap₂ (λ (b : Bool) (n : ℕ). cond b 1 0 + n) (none_has key r past.0) (all_past key rs past.1)

pub below_equal : (key b c : List ℕ) → is_below key b ≡ true → is_lt (bytes_cmp c b) ≡ false → is_below key c ≡ true
below_equal key b c below not_less =
    elim (bytes_cmp b c) as (λ (o : Ordering). bytes_cmp b c ≡ o → is_below key c ≡ true) [
      | Less ↦ λ less. ap is_lt (nat_list_cmp_total.trans key b c (is_less (bytes_cmp key b) below) less)
      | Equal ↦ λ equal. subst (λ (k : List ℕ). is_below key k ≡ true) (keys_same b c equal) below
      | Greater ↦ λ greater.
          let less : is_lt (bytes_cmp c b) ≡ true = ap is_lt (nat_list_cmp_total.antisymm c b ∙ ap ordering_reverse greater) in
          absurd (differ (sym less ∙ not_less))
    ] refl
  where
    differ : true ≡ false → ⊥
    differ is = cc

-- what is below where a range begins is below where each later one begins
pub next_past : (key : List ℕ) (from begin : Option (List ℕ)) → is_lt (option_cmp bytes_cmp begin from) ≡ false → is_from from key ≡ false → is_from begin key ≡ false
next_past key None begin order past = cc
next_past key (Some b) None order past = cc
next_past key (Some b) (Some c) order past = ap not (below_equal key b c (was_not (is_below key b) past) order) where
  was_not : (t : Bool) → not t ≡ false → t ≡ true
  was_not true is = refl
  was_not false is = cc

pub later_past : (key : List ℕ) (r : Ends) (rs : List Ends) → InTurnOrder (r ∷ rs) → Past key r → AllByRecursion (Past key) (r ∷ rs)
later_past key r [] order past = (past, tt)
later_past key r (n ∷ rs) order past = (past, later_past key n rs order.1 (next_past key r.0 n.0 order.0 past))

-- what comes of a comparison with where the others end
abbrev pub by_test : Ordering → Option (List ℕ) → Option (List ℕ) → Result (Unit {0}) CutFault → Result (Unit {0}) CutFault
by_test o from begin rest = by_order o from begin >>= λ _. rest

pub no_empty_below : (key : List ℕ) → is_below key [] ≡ true → ⊥
no_empty_below [] is = cc
no_empty_below (b ∷ key) is = cc

-- nothing is both from an end on and below it
pub not_both : (end : Option (List ℕ)) (key : List ℕ) → is_from end key ≡ true → is_below key (begin_of end) ≡ true → ⊥
not_both None key from below = no_empty_below key below
not_both (Some b) key from below = cc

-- where a range begins is in it
pub own_begin : (end : Option (List ℕ)) → is_from end (begin_of end) ≡ true
own_begin None = refl
own_begin (Some b) = ap not (irreflexive b) where
  irreflexive : (k : List ℕ) → is_below k k ≡ false
  irreflexive k =
      elim (bytes_cmp k k) as (λ (o : Ordering). bytes_cmp k k ≡ o → is_lt o ≡ false) [
        | Less ↦ λ less.
            let other : bytes_cmp k k ≡ ordering_reverse Less = nat_list_cmp_total.antisymm k k ∙ ap ordering_reverse less in
            cc
        | Equal ↦ λ equal. refl
        | Greater ↦ λ greater. refl
      ] refl

pub begin_inside : (r : Ends) → IsNoEmpty r.0 × IsNoEmpty r.1 → are_ends r ≡ true → in_range r (begin_of r.0) ≡ true
begin_inside (None, None) keyed order = refl
begin_inside (None, Some to) keyed order = keyed.1
begin_inside (Some from, to) keyed order = ap₂ (λ (x y : Bool). x && y) (own_begin (Some from)) order

-- what is from the end of a range on is from its beginning on
pub from_up : (from : Option (List ℕ)) (to key : List ℕ) → are_ends (from, Some to) ≡ true → is_from (Some to) key ≡ true → is_from from key ≡ true
from_up None to key order above = refl
from_up (Some f) to key order above = ap not (not_below key f to (is_less (bytes_cmp f to) order) (was_false (is_below key to) above)) where
  was_false : (t : Bool) → not t ≡ true → t ≡ false
  was_false true is = cc
  was_false false is = refl

-- a key before an end that is below another range's beginning is below that
pub less_past : (from begin : Option (List ℕ)) → IsNoEmpty begin → option_cmp bytes_cmp from begin ≡ Less → is_from begin (begin_of from) ≡ false
less_past None None keyed less = cc
less_past None (Some b) keyed less = ap not keyed
less_past (Some f) None keyed less = cc
less_past (Some f) (Some b) keyed less = ap (λ (o : Ordering). not (is_lt o)) less

pub before_less : (key : List ℕ) (to : List ℕ) (begin : Option (List ℕ)) → is_below key to ≡ true → option_cmp bytes_cmp (Some to) begin ≡ Less → is_from begin key ≡ false
before_less key to None below less = cc
before_less key to (Some b) below less = ap (λ (o : Ordering). not (is_lt o)) (nat_list_cmp_total.trans key to b (is_less (bytes_cmp key to) below) less)

pub before_equal : (key : List ℕ) (to : List ℕ) (begin : Option (List ℕ)) → is_below key to ≡ true → Some to ≡ begin → is_from begin key ≡ false
before_equal key to begin below same = subst (λ (e : Option (List ℕ)). is_from e key ≡ false) same (ap not below)

pub before_begin : (key : List ℕ) (begin : Option (List ℕ)) → is_below key (begin_of begin) ≡ true → is_from begin key ≡ false
before_begin key None below = absurd (no_empty_below key below)
before_begin key (Some b) below = ap not below

pub order_tail : (r : Ends) (rs : List Ends) → InTurnOrder (r ∷ rs) → InTurnOrder rs
order_tail r [] turn = tt
order_tail r (n ∷ rs) turn = turn.1
