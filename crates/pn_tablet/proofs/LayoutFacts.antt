-- Bounds that rise: each key is in the range of one tablet, and a search through them finds it.
use Rattle.std.proofs.Common.{◌≡◌, ℕ, zero, suc, ◌+◌, ◌<◌, ◌≤◌, Bool, true, false, not, cond, ◌&&◌, List, [], ◌∷◌, length, slice_get, Less, is_lt, IsTrue, refl, sym, ap, ◌∙◌, arith, one-add, zero-add, drop, get_or, Option, Some, None, option_map, Ordering, Equal, Greater, is_le, is_ge, subst, add-one}
use Rattle.std.proofs.lemmas.Bool.{and_parts}
use Rattle.std.proofs.lemmas.Cmp.{nat_list_cmp_total}
use Rattle.std.proofs.lemmas.List.Sums.{sum_by-cons, count_by-le-length}
use Rattle.std.specs.List.{AllByRecursion}
use Rattle.std.specs.List.Sorted.{IsStrictlySortedBy, IsPartitionedBy, IsPartitionPoint}
use Rattle.std.proofs.lemmas.List.{drop_more}
use Rattle.std.specs.Ordering.{ordering_reverse}
use Rattle.pn_record.proofs.Sorted.{is_less}
use Rattle.pn_record.specs.Sets.{bytes_cmp}
use Rattle.pn_tablet.specs.Layouts.{Bounds, tablet_of, tablet_ends, first_fall, is_below, is_from, is_before, in_range, are_ends}

-- Bounds that rise: each key is in the range of exactly one tablet.

pub is_not : (b : Bool) → not b ≡ true → b ≡ false
is_not true h = cc
is_not false h = refl

less : (a b : List ℕ) → is_below a b ≡ true → bytes_cmp a b ≡ Less
less a b below = is_less (bytes_cmp a b) below

below_trans : (a b c : List ℕ) → is_below a b ≡ true → bytes_cmp b c ≡ Less → is_below a c ≡ true
below_trans a b c first then = ap is_lt (nat_list_cmp_total.trans a b c (less a b first) then)

-- a key that is not below a bound is not below a lesser one
pub not_below : (key bound other : List ℕ) → bytes_cmp bound other ≡ Less → is_below key other ≡ false → is_below key bound ≡ false
not_below key bound other rises above =
    elim (is_below key bound) as (λ b. is_below key bound ≡ b → b ≡ false) [
      | true ↦ λ p. sym (below_trans key bound other p rises) ∙ above
      | false ↦ λ p. refl
    ] refl

pub tablet_of-cons : (bound : List ℕ) (bounds : Bounds) (key : List ℕ) (below : Bool) → is_below key bound ≡ below → tablet_of (bound ∷ bounds) key ≡ cond (not below) 1 0 + tablet_of bounds key
tablet_of-cons bound bounds key below is = sum_by-cons _ bound bounds ∙ ap (λ b. cond (not b) 1 0 + tablet_of bounds key) is

-- a key below the first bound is below all
pub first_tablet : (bound : List ℕ) (bounds : Bounds) (key : List ℕ) → is_below key bound ≡ true → AllByRecursion (λ other. bytes_cmp bound other ≡ Less) bounds → tablet_of bounds key ≡ 0
first_tablet bound [] key below rises = refl
first_tablet bound (next ∷ bounds) key below rises =
    tablet_of-cons next bounds key true (below_trans key bound next below rises.0) ∙ zero-add _ ∙ first_tablet bound bounds key below rises.1

-- after the first bound the tablets are those of the others
later_tablet : (bound : List ℕ) (bounds : Bounds) (key : List ℕ) (tablet : ℕ) → is_below key bound ≡ false → in_range (tablet_ends (bound ∷ bounds) (suc tablet)) key ≡ in_range (tablet_ends bounds tablet) key
later_tablet bound bounds key zero above = ap (λ b. not b && is_before (slice_get bounds 0) key) above
later_tablet bound bounds key (suc tablet) above = refl

-- each key is in the tablet that is named
pub key_in_tablet : (bounds : Bounds) (key : List ℕ) → IsStrictlySortedBy bytes_cmp bounds → IsTrue (in_range (tablet_ends bounds (tablet_of bounds key)) key)
unfolding IsStrictlySortedBy
key_in_tablet [] key rising = refl
key_in_tablet (bound ∷ bounds) key rising =
    elim (is_below key bound) as (λ b. is_below key bound ≡ b → in_range (tablet_ends (bound ∷ bounds) (tablet_of (bound ∷ bounds) key)) key ≡ true) [
      | true ↦ λ p. ap (λ t. in_range (tablet_ends (bound ∷ bounds) t) key) (tablet_of-cons bound bounds key true p ∙ zero-add _ ∙ first_tablet bound bounds key p rising.0) ∙ p
      | false ↦ λ p. ap (λ t. in_range (tablet_ends (bound ∷ bounds) t) key) (tablet_of-cons bound bounds key false p ∙ one-add _) ∙ later_tablet bound bounds key (tablet_of bounds key) p ∙ key_in_tablet bounds key rising.1
    ] refl

-- what a tablet begins with is not less than the first bound
begins_above : (bound : List ℕ) (bounds : Bounds) (key : List ℕ) (index : ℕ) → AllByRecursion (λ other. bytes_cmp bound other ≡ Less) bounds → index < length (bound ∷ bounds) → is_from (slice_get (bound ∷ bounds) index) key ≡ true → is_below key bound ≡ false
begins_above bound bounds key zero rises within from = is_not (is_below key bound) from
begins_above bound [] key (suc index) rises within from = absurd (omega arith)
begins_above bound (next ∷ bounds) key (suc zero) rises within from = not_below key bound next rises.0 (is_not (is_below key next) from)
begins_above bound (next ∷ bounds) key (suc (suc index)) rises within from = begins_above bound bounds key (suc index) rises.1 (omega arith) from

-- a key is in no other tablet
pub tablet_of_key : (bounds : Bounds) (key : List ℕ) (tablet : ℕ) → IsStrictlySortedBy bytes_cmp bounds → tablet ≤ length bounds → IsTrue (in_range (tablet_ends bounds tablet) key) → tablet ≡ tablet_of bounds key
unfolding IsStrictlySortedBy
tablet_of_key [] key tablet rising within lies = omega arith
tablet_of_key (bound ∷ bounds) key zero rising within lies = sym (tablet_of-cons bound bounds key true lies ∙ zero-add _ ∙ first_tablet bound bounds key lies rising.0)
tablet_of_key (bound ∷ bounds) key (suc tablet) rising within lies =
    let from = (and_parts _ _ lies).0 in
    let above = begins_above bound bounds key tablet rising.0 (omega arith) from in
    let later = tablet_of_key bounds key tablet rising.1 (omega arith) (sym (later_tablet bound bounds key tablet above) ∙ lies) in
    ap suc later ∙ sym (tablet_of-cons bound bounds key false above ∙ one-add _)

-- the tablet of a key is one of the layout
pub tablet_of_within : (bounds : Bounds) (key : List ℕ) → tablet_of bounds key ≤ length bounds
tablet_of_within bounds key = count_by-le-length (λ bound. not (is_below key bound)) bounds

-- the ends of a tablet are those of a range
pub ends_in_order : (bounds : Bounds) (tablet : ℕ) → IsStrictlySortedBy bytes_cmp bounds → IsTrue (are_ends (tablet_ends bounds tablet))
unfolding IsStrictlySortedBy
ends_in_order bounds zero rising = refl
ends_in_order [] (suc tablet) rising = refl
ends_in_order (bound ∷ []) (suc zero) rising = refl
ends_in_order (bound ∷ next ∷ bounds) (suc zero) rising = ap is_lt rising.0.0
ends_in_order (bound ∷ bounds) (suc (suc tablet)) rising = ends_in_order bounds (suc tablet) rising.1

-- Bounds that a loop goes over, and that a search looks through.

no_fall : (o : Option ℕ) → option_map suc o ≡ None → o ≡ None
no_fall None is = refl
no_fall (Some k) is = cc

all_below : (a b : List ℕ) (bounds : Bounds) → bytes_cmp a b ≡ Less → AllByRecursion (λ other. bytes_cmp b other ≡ Less) bounds → AllByRecursion (λ other. bytes_cmp a other ≡ Less) bounds
all_below a b [] first rest = tt
all_below a b (c ∷ bounds) first rest = (nat_list_cmp_total.trans a b c first rest.0, all_below a b bounds first rest.1)

-- bounds without a fall rise
pub rising_from_none : (bounds : Bounds) → first_fall bounds ≡ None → IsStrictlySortedBy bytes_cmp bounds
unfolding IsStrictlySortedBy
rising_from_none [] none = tt
rising_from_none (a ∷ []) none = (tt, tt)
rising_from_none (a ∷ b ∷ bounds) none =
    elim (is_below a b) as (λ t. is_below a b ≡ t → cond t (option_map suc (first_fall (b ∷ bounds))) (Some 1) ≡ None → IsStrictlySortedBy bytes_cmp (a ∷ b ∷ bounds)) [
      | true ↦ λ p is.
          let rest = rising_from_none (b ∷ bounds) (no_fall _ is) in
          let first : bytes_cmp a b ≡ Less = is_less (bytes_cmp a b) p in
          ((first, all_below a b bounds first rest.0), rest)
      | false ↦ λ p is. cc
    ] refl none

-- the first fall after an index
abbrev pub fall_from : ℕ → Bounds → Option ℕ
fall_from index bounds = option_map (λ k. index + k) (first_fall (drop index bounds))

pub fall_from-zero : (bounds : Bounds) → first_fall bounds ≡ fall_from 0 bounds
fall_from-zero bounds = same (first_fall bounds) where
  same : (o : Option ℕ) → o ≡ option_map (λ k. 0 + k) o
  same None = refl
  same (Some k) = ap Some (sym (zero-add k))

module _ (bounds : Bounds) (j : ℕ) (a b : List ℕ) (here : a ≡ get_or bounds j a) (next : b ≡ get_or bounds (suc j) b) (inside : suc j < length bounds) where
  after : drop (suc j) bounds ≡ b ∷ drop (suc (suc j)) bounds
  after = drop_more bounds (suc j) b inside ∙ ap (λ x. x ∷ drop (suc j + 1) bounds) (sym next) ∙ ap (λ k. b ∷ drop k bounds) (add-one (suc j))

  both : drop j bounds ≡ a ∷ b ∷ drop (suc (suc j)) bounds
  both = drop_more bounds j a (omega arith) ∙ ap (λ x. x ∷ drop (j + 1) bounds) (sym here) ∙ ap (λ k. a ∷ drop k bounds) (add-one j) ∙ ap (λ xs. a ∷ xs) after

  -- here the bounds fall
  pub falls_here : is_below a b ≡ false → fall_from j bounds ≡ Some (suc j)
  falls_here above = ap (λ xs. option_map (λ k. j + k) (first_fall xs)) both ∙ rw above (ap Some (add-one j))

  later : (o : Option ℕ) → option_map (λ k. j + k) (option_map suc o) ≡ option_map (λ k. suc j + k) o
  later None = refl
  later (Some k) = ap Some (omega arith)

  -- here they rise
  pub rises_here : is_below a b ≡ true → fall_from j bounds ≡ fall_from (suc j) bounds
  rises_here below =
      ap (λ xs. option_map (λ k. j + k) (first_fall xs)) both
      ∙ rw below (later (first_fall (b ∷ drop (suc (suc j)) bounds)) ∙ ap (λ xs. option_map (λ k. suc j + k) (first_fall xs)) (sym after))

-- after the last bound but one nothing falls
pub no_fall_after : (bounds : Bounds) (j : ℕ) → length bounds ≤ suc j → fall_from j bounds ≡ None
no_fall_after [] j past = ap (λ xs. option_map (λ k. j + k) (first_fall xs)) (drop-nil j) where
  drop-nil : (k : ℕ) → drop {A = List ℕ} k [] ≡ []
  drop-nil zero = refl
  drop-nil (suc k) = refl
no_fall_after (a ∷ []) zero past = refl
no_fall_after (a ∷ b ∷ bounds) zero past = absurd (omega arith)
no_fall_after (a ∷ bounds) (suc j) past = none (first_fall (drop j bounds)) (no_fall_after bounds j (omega arith)) where
  none : (o : Option ℕ) → option_map (λ k. j + k) o ≡ None → option_map (λ k. suc j + k) o ≡ None
  none None is = refl
  none (Some k) is = cc

below_at : (bound : List ℕ) (bounds : Bounds) (i : ℕ) (d : List ℕ) → AllByRecursion (λ other. bytes_cmp bound other ≡ Less) bounds → i < length bounds → bytes_cmp bound (get_or bounds i d) ≡ Less
below_at bound [] i d all within = absurd (omega arith)
below_at bound (next ∷ bounds) zero d all within = all.0
below_at bound (next ∷ bounds) (suc i) d all within = below_at bound bounds i d all.1 (omega arith)

-- bounds not greater than a key come before the others
pub partitioned : (bounds : Bounds) (key : List ℕ) → IsStrictlySortedBy bytes_cmp bounds → IsPartitionedBy (λ bound. not (is_below key bound)) bounds
unfolding IsStrictlySortedBy
partitioned [] key rising i j d le within passes = absurd (omega arith)
partitioned (bound ∷ bounds) key rising zero zero d le within passes = passes
partitioned (bound ∷ bounds) key rising zero (suc j) d le within passes =
    ap not (not_below key bound (get_or bounds j d) (below_at bound bounds j d rising.0 (omega arith)) (is_not _ passes))
partitioned (bound ∷ bounds) key rising (suc i) zero d le within passes = absurd (omega arith)
partitioned (bound ∷ bounds) key rising (suc i) (suc j) d le within passes = partitioned bounds key rising.1 i j d (omega arith) (omega arith) passes

-- what is not false is true
pub is_so : (b : Bool) → not b ≡ false → b ≡ true
is_so true h = refl
is_so false h = cc

-- where they end is how many they are
pub partition_count : (bounds : Bounds) (key : List ℕ) (index : ℕ) → IsStrictlySortedBy bytes_cmp bounds → index ≤ length bounds → IsPartitionPoint (λ bound. not (is_below key bound) ≡ true) (λ bound. not (is_below key bound) ≡ false) bounds index → index ≡ tablet_of bounds key
unfolding IsStrictlySortedBy
partition_count [] key index rising within point = omega arith
partition_count (bound ∷ bounds) key zero rising within point =
    let below : is_below key bound ≡ true = is_so _ (point.1 0 bound (omega arith) (omega arith)) in
    sym (tablet_of-cons bound bounds key true below ∙ zero-add _ ∙ first_tablet bound bounds key below rising.0)
partition_count (bound ∷ bounds) key (suc index) rising within point =
    let above : is_below key bound ≡ false = is_not _ (point.0 0 bound (omega arith) (omega arith)) in
    let later = partition_count bounds key index rising.1 (omega arith) ((λ k d ge lt. point.0 (suc k) d (omega arith) (omega arith)), (λ k d ge lt. point.1 (suc k) d (omega arith) (omega arith))) in
    ap suc later ∙ sym (tablet_of-cons bound bounds key false above ∙ one-add _)

flipped : (o : Ordering) → is_le (ordering_reverse o) ≡ not (is_lt o)
flipped Less = refl
flipped Equal = refl
flipped Greater = refl

-- the test of a bound, as it is counted and as a program makes it
abbrev counted : List ℕ → List ℕ → Bool
counted key bound = not (is_below key bound)

abbrev tested : List ℕ → List ℕ → Bool
tested key bound = is_le (bytes_cmp bound key)

one_test : (key : List ℕ) → counted key ≡ tested key
one_test key i bound = sym (ap is_le (nat_list_cmp_total.antisymm bound key) ∙ flipped (bytes_cmp key bound)) i

pub partitioned_by_test : (bounds : Bounds) (key : List ℕ) → IsStrictlySortedBy bytes_cmp bounds → IsPartitionedBy (λ bound. is_le (bytes_cmp bound key)) bounds
partitioned_by_test bounds key rising = subst (λ (p : List ℕ → Bool). IsPartitionedBy p bounds) (one_test key) (partitioned bounds key rising)

pub count_by_test : (bounds : Bounds) (key : List ℕ) (index : ℕ) → IsStrictlySortedBy bytes_cmp bounds → index ≤ length bounds → IsPartitionPoint (λ bound. is_le (bytes_cmp bound key) ≡ true) (λ bound. is_le (bytes_cmp bound key) ≡ false) bounds index → index ≡ tablet_of bounds key
count_by_test bounds key index rising within point =
    partition_count bounds key index rising within (subst (λ (p : List ℕ → Bool). IsPartitionPoint (λ bound. p bound ≡ true) (λ bound. p bound ≡ false) bounds index) (sym (one_test key)) point)

pub not_less : (o : Ordering) → is_ge o ≡ true → is_lt o ≡ false
not_less Less is = cc
not_less Equal is = refl
not_less Greater is = refl

pub is_less_from : (o : Ordering) → is_ge o ≡ false → is_lt o ≡ true
is_less_from Less is = refl
is_less_from Equal is = cc
is_less_from Greater is = cc
