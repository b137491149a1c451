-- The first key that is not in exactly one of some ranges: it is in none of them, or in two.
use Rattle.std.proofs.Common.{◌≡◌, ℕ, ◌+◌, Bool, true, false, not, cond, ◌&&◌, List, [], ◌∷◌, Option, Some, None, Result, Err, Ordering, Less, Equal, Greater, refl, sym, ap, ap₂, ◌∙◌, subst, ◌≤◌, length, Ok, is_lt, nat_lt, arith}
use Rattle.std.specs.Option.{option_cmp}
use Rattle.std.proofs.lemmas.Cmp.{nat_list_cmp_total}
use Rattle.std.specs.Ordering.{ordering_reverse}
use Rattle.pn_json.specs.Answers.{◌>>=◌}
use Rattle.pn_record.specs.Sets.{bytes_cmp}
use Rattle.pn_record.proofs.Sorted.{is_less}
use Rattle.pn_tablet.specs.Layouts.{IsNoEmpty, begin_of, by_end, count_having, ends_open, follow_from, BeginInOrder, CutBelow, begins_of, layout_with, Ends, are_ends, in_range, is_below, is_from}
use Rattle.pn_tablet.specs.declared.layout.CutFault.{CutFault}
use Rattle.pn_tablet.specs.declared.layout.CutFault.TheVariants.{NoCopy, TwoCopies, TooMany}
use Rattle.pn_tablet.proofs.CutRanges.{InOrder, ends_same}
use Rattle.pn_tablet.proofs.CutOrders.{Keyed, InTurnOrder, count-cons, all_past, later_past, by_test, not_both, own_begin, from_up, less_past, before_less, before_equal, order_tail, ordered, no_empty_below, begin_inside, before_begin}
use Rattle.pn_tablet.specs.declared.layout.TheConstants.{MAX_BOUNDS}

-- The first key that is in none of some ranges.

-- a gap: no range has the key, and each key from here to it is in one
pub record Gap (from : Option (List ℕ)) (rs : List Ends) (key : List ℕ) : Type 0 where
  pub above : is_from from key ≡ true
  pub none : count_having rs key ≡ 0
  pub once : (other : List ℕ) → is_from from other ≡ true → is_below other key ≡ true → count_having rs other ≡ 1

gap_here : (from : Option (List ℕ)) (rs : List Ends) → count_having rs (begin_of from) ≡ 0 → Gap from rs (begin_of from)
gap_here from rs none = record { above = own_begin from; none = none; once = λ other above below. absurd (not_both from other above below) }

gap_end : (from end : Option (List ℕ)) → follow_from from [] ≡ Err (NoCopy end) → from ≡ end
unfolding follow_from
gap_end from end is = cc

-- a range and those after it, where these have a gap
gap_more : (begin : Option (List ℕ)) (to : List ℕ) (rs : List Ends) (key : List ℕ) → are_ends (begin, Some to) ≡ true → ((other : List ℕ) → is_below other to ≡ true → count_having rs other ≡ 0) → Gap (Some to) rs key → Gap begin ((begin, Some to) ∷ rs) key
gap_more begin to rs key order before gap = record {
  above = from_up begin to key order gap.above;
  none = count-cons (begin, Some to) rs key ∙ ap₂ (λ (t : Bool) (n : ℕ). cond t 1 0 + n) (past key gap.above) gap.none;
  once = λ other above below.
      count-cons (begin, Some to) rs other
      ∙ elim (is_below other to) as (λ (t : Bool). is_below other to ≡ t → cond (is_from begin other && t) 1 0 + count_having rs other ≡ 1) [
        | true ↦ λ is. ap₂ (λ (t : Bool) (n : ℕ). cond (t && true) 1 0 + n) above (before other is)
        | false ↦ λ is. ap₂ (λ (t : Bool) (n : ℕ). cond t 1 0 + n) (and_false (is_from begin other)) (gap.once other (ap not is) below)
      ] refl;
}
  where
    and_false : (t : Bool) → (t && false) ≡ false
    and_false true = refl
    and_false false = refl

    not_true : (t : Bool) → not t ≡ true → t ≡ false
    not_true true is = cc
    not_true false is = refl

    past : (other : List ℕ) → is_from (Some to) other ≡ true → in_range (begin, Some to) other ≡ false
    past other above = ap (λ (t : Bool). is_from begin other && t) (not_true (is_below other to) above) ∙ and_false (is_from begin other)

open_no_gap : (rs : List Ends) (end : Option (List ℕ)) → ends_open rs ≡ Err (NoCopy end) → ⊥
open_no_gap [] end is = cc
open_no_gap (r ∷ rs) end is = cc

-- before the end of a range, none of those after it has a key
before_gap : (to : List ℕ) (rs : List Ends) (end : Option (List ℕ)) → InTurnOrder rs → follow_from (Some to) rs ≡ Err (NoCopy end) → (other : List ℕ) → is_below other to ≡ true → count_having rs other ≡ 0
unfolding follow_from
before_gap to [] end turn is other below = refl
before_gap to (n ∷ ns) end turn is other below =
    all_past other (n ∷ ns) (later_past other n ns turn
    (elim (option_cmp bytes_cmp (Some to) n.0) as (λ (o : Ordering). option_cmp bytes_cmp (Some to) n.0 ≡ o → by_test o (Some to) n.0 (by_end n.1 (ends_open ns) (follow_from n.1 ns)) ≡ Err (NoCopy end) → is_from n.0 other ≡ false) [
      | Less ↦ λ less is. before_less other to n.0 below less
      | Equal ↦ λ equal is. before_equal other to n.0 below (ends_same (Some to) n.0 equal)
      | Greater ↦ λ greater is. cc
    ] refl is))

gap_from : (from begin : Option (List ℕ)) (to : Option (List ℕ)) (rs : List Ends) (end : Option (List ℕ)) → InTurnOrder ((begin, to) ∷ rs) → IsNoEmpty begin → (rest : Result (Unit {0}) CutFault)
    → (rest ≡ Err (NoCopy end) → Gap begin ((begin, to) ∷ rs) (begin_of end))
    → by_test (option_cmp bytes_cmp from begin) from begin rest ≡ Err (NoCopy end) → Gap from ((begin, to) ∷ rs) (begin_of end)
gap_from from begin to rs end turn keyed rest equally is =
    elim (option_cmp bytes_cmp from begin) as (λ (o : Ordering). option_cmp bytes_cmp from begin ≡ o → by_test o from begin rest ≡ Err (NoCopy end) → Gap from ((begin, to) ∷ rs) (begin_of end)) [
      | Less ↦ λ less is.
          let same : from ≡ end = cc in
          subst (λ (e : Option (List ℕ)). Gap from ((begin, to) ∷ rs) (begin_of e)) same
          (gap_here from ((begin, to) ∷ rs) (all_past (begin_of from) ((begin, to) ∷ rs) (later_past (begin_of from) (begin, to) rs turn (less_past from begin keyed less))))
      | Equal ↦ λ equal is. subst (λ (e : Option (List ℕ)). Gap e ((begin, to) ∷ rs) (begin_of end)) (sym (ends_same from begin equal)) (equally is)
      | Greater ↦ λ greater is. cc
    ] refl is

pub no_copy : (from : Option (List ℕ)) (rs : List Ends) (end : Option (List ℕ)) → InTurnOrder rs → InOrder rs → Keyed rs → follow_from from rs ≡ Err (NoCopy end) → Gap from rs (begin_of end)
unfolding follow_from
no_copy from [] end turn order keyed is = subst (λ (e : Option (List ℕ)). Gap from [] (begin_of e)) (gap_end from end is) (gap_here from [] refl)
no_copy from ((begin, None) ∷ rs) end turn order keyed is = gap_from from begin None rs end turn keyed.0.0 (ends_open rs) (λ left. absurd (open_no_gap rs end left)) is
no_copy from ((begin, Some to) ∷ rs) end turn order keyed is =
    gap_from from begin (Some to) rs end turn keyed.0.0 (follow_from (Some to) rs)
    (λ later. gap_more begin to rs (begin_of end) order.0 (before_gap to rs end (order_tail (begin, Some to) rs turn) later) (no_copy (Some to) rs end (order_tail (begin, Some to) rs turn) order.1 keyed.1 later))
    is

-- two ranges have the key; where it is below the end that the ranges begin after, one of them does; and each key from here to it is in one
pub record Twice (from : Option (List ℕ)) (rs : List Ends) (key : List ℕ) : Type 0 where
  pub twice : is_from from key ≡ true → 2 ≤ count_having rs key
  pub some : 1 ≤ count_having rs key
  pub once : (other : List ℕ) → is_from from other ≡ true → is_below other key ≡ true → count_having rs other ≡ 1

has : (r : Ends) (rs : List Ends) (key : List ℕ) → in_range r key ≡ true → count_having (r ∷ rs) key ≡ 1 + count_having rs key
has r rs key is = count-cons r rs key ∙ ap (λ (t : Bool). cond t 1 0 + count_having rs key) is

begins_from : (begin next : Option (List ℕ)) → is_lt (option_cmp bytes_cmp next begin) ≡ false → is_from begin (begin_of next) ≡ true
begins_from None next order = refl
begins_from (Some b) None order = cc
begins_from (Some b) (Some c) order = ap not order

and_so : (a b : Bool) → a ≡ true → b ≡ true → (a && b) ≡ true
and_so a b one other = ap₂ (λ (x y : Bool). x && y) one other

twice_open : (begin : Option (List ℕ)) (n : Ends) (ns : List Ends) → InTurnOrder ((begin, None) ∷ n ∷ ns) → are_ends n ≡ true → IsNoEmpty n.0 × IsNoEmpty n.1 → Twice begin ((begin, None) ∷ n ∷ ns) (begin_of n.0)
twice_open begin n ns turn order keyed = record {
  twice = λ above. omega (arith, first, second);
  some = omega (arith, first);
  once = λ other above below.
      has (begin, None) (n ∷ ns) other (and_so (is_from begin other) true above refl)
      ∙ ap (λ (m : ℕ). 1 + m) (all_past other (n ∷ ns) (later_past other n ns turn.1 (before_begin other n.0 below)));
}
  where
    first : count_having ((begin, None) ∷ n ∷ ns) (begin_of n.0) ≡ 1 + count_having (n ∷ ns) (begin_of n.0)
    first = has (begin, None) (n ∷ ns) (begin_of n.0) (and_so (is_from begin (begin_of n.0)) true (begins_from begin n.0 turn.0) refl)

    second : count_having (n ∷ ns) (begin_of n.0) ≡ 1 + count_having ns (begin_of n.0)
    second = has n ns (begin_of n.0) (begin_inside n keyed order)

twice_more : (begin : Option (List ℕ)) (to : List ℕ) (rs : List Ends) (key : List ℕ) → ((other : List ℕ) → is_below other to ≡ true → is_below other key ≡ true → count_having rs other ≡ 0) → Twice (Some to) rs key → Twice begin ((begin, Some to) ∷ rs) key
twice_more begin to rs key before later = record {
  twice = λ above.
      elim (is_below key to) as (λ (t : Bool). is_below key to ≡ t → 2 ≤ count_having ((begin, Some to) ∷ rs) key) [
        | true ↦ λ is. omega (arith, has (begin, Some to) rs key (and_so (is_from begin key) (is_below key to) above is), later.some)
        | false ↦ λ is. omega (arith, count-cons (begin, Some to) rs key, later.twice (ap not is))
      ] refl;
  some = omega (arith, count-cons (begin, Some to) rs key, later.some);
  once = λ other above below.
      elim (is_below other to) as (λ (t : Bool). is_below other to ≡ t → count_having ((begin, Some to) ∷ rs) other ≡ 1) [
        | true ↦ λ is. has (begin, Some to) rs other (and_so (is_from begin other) (is_below other to) above is) ∙ ap (λ (m : ℕ). 1 + m) (before other is below)
        | false ↦ λ is. count-cons (begin, Some to) rs other ∙ ap₂ (λ (t : Bool) (m : ℕ). cond (is_from begin other && t) 1 0 + m) is (later.once other (ap not is) below) ∙ none_more (is_from begin other)
      ] refl;
}
  where
    none_more : (t : Bool) → cond (t && false) 1 0 + 1 ≡ 1
    none_more true = refl
    none_more false = refl

-- a range that begins before those before it end
greater_above : (from begin : Option (List ℕ)) → IsNoEmpty from → option_cmp bytes_cmp from begin ≡ Greater → is_from from (begin_of begin) ≡ false
greater_above None None keyed greater = cc
greater_above None (Some b) keyed greater = cc
greater_above (Some f) None keyed greater = ap not keyed
greater_above (Some f) (Some b) keyed greater = ap (λ (o : Ordering). not (is_lt o)) (nat_list_cmp_total.antisymm b f ∙ ap ordering_reverse greater)

none_between : (from begin : Option (List ℕ)) (other : List ℕ) → option_cmp bytes_cmp from begin ≡ Greater → is_from from other ≡ true → is_below other (begin_of begin) ≡ true → ⊥
none_between None None other greater above below = cc
none_between None (Some b) other greater above below = cc
none_between (Some f) None other greater above below = no_empty_below other below
none_between (Some f) (Some b) other greater above below =
    let less : bytes_cmp b f ≡ Less = nat_list_cmp_total.antisymm b f ∙ ap ordering_reverse greater in
    let under : is_below other f ≡ true = ap is_lt (nat_list_cmp_total.trans other b f (is_less (bytes_cmp other b) below) less) in
    cc

twice_here : (from : Option (List ℕ)) (r : Ends) (rs : List Ends) → IsNoEmpty from → are_ends r ≡ true → IsNoEmpty r.0 × IsNoEmpty r.1 → option_cmp bytes_cmp from r.0 ≡ Greater → Twice from (r ∷ rs) (begin_of r.0)
twice_here from r rs no_empty order keyed greater = record {
  twice = λ above. absurd (differ (sym above ∙ greater_above from r.0 no_empty greater));
  some = omega (arith, has r rs (begin_of r.0) (begin_inside r keyed order));
  once = λ other above below. absurd (none_between from r.0 other greater above below);
}
  where
    differ : true ≡ false → ⊥
    differ is = cc

before_twice : (to : List ℕ) (rs : List Ends) (end : Option (List ℕ)) → InTurnOrder rs → follow_from (Some to) rs ≡ Err (TwoCopies end) → (other : List ℕ) → is_below other to ≡ true → is_below other (begin_of end) ≡ true → count_having rs other ≡ 0
unfolding follow_from
before_twice to [] end turn is other below under = refl
before_twice to (n ∷ ns) end turn is other below under =
    all_past other (n ∷ ns) (later_past other n ns turn
    (elim (option_cmp bytes_cmp (Some to) n.0) as (λ (o : Ordering). option_cmp bytes_cmp (Some to) n.0 ≡ o → by_test o (Some to) n.0 (by_end n.1 (ends_open ns) (follow_from n.1 ns)) ≡ Err (TwoCopies end) → is_from n.0 other ≡ false) [
      | Less ↦ λ less is. before_less other to n.0 below less
      | Equal ↦ λ equal is. before_equal other to n.0 below (ends_same (Some to) n.0 equal)
      | Greater ↦ λ greater is.
          let same : n.0 ≡ end = cc in
          before_begin other n.0 (subst (λ (e : Option (List ℕ)). is_below other (begin_of e) ≡ true) (sym same) under)
    ] refl is))

twice_from : (from : Option (List ℕ)) (r : Ends) (rs : List Ends) (end : Option (List ℕ)) → IsNoEmpty from → are_ends r ≡ true → IsNoEmpty r.0 × IsNoEmpty r.1 → (rest : Result (Unit {0}) CutFault)
    → (rest ≡ Err (TwoCopies end) → Twice r.0 (r ∷ rs) (begin_of end))
    → by_test (option_cmp bytes_cmp from r.0) from r.0 rest ≡ Err (TwoCopies end) → Twice from (r ∷ rs) (begin_of end)
twice_from from r rs end no_empty order keyed rest equally is =
    elim (option_cmp bytes_cmp from r.0) as (λ (o : Ordering). option_cmp bytes_cmp from r.0 ≡ o → by_test o from r.0 rest ≡ Err (TwoCopies end) → Twice from (r ∷ rs) (begin_of end)) [
      | Less ↦ λ less is. cc
      | Equal ↦ λ equal is. subst (λ (e : Option (List ℕ)). Twice e (r ∷ rs) (begin_of end)) (sym (ends_same from r.0 equal)) (equally is)
      | Greater ↦ λ greater is.
          let same : r.0 ≡ end = cc in
          subst (λ (e : Option (List ℕ)). Twice from (r ∷ rs) (begin_of e)) same (twice_here from r rs no_empty order keyed greater)
    ] refl is

open_twice : (begin : Option (List ℕ)) (rs : List Ends) (end : Option (List ℕ)) → InTurnOrder ((begin, None) ∷ rs) → InOrder rs → Keyed rs → ends_open rs ≡ Err (TwoCopies end) → Twice begin ((begin, None) ∷ rs) (begin_of end)
open_twice begin [] end turn order keyed is = cc
open_twice begin (n ∷ ns) end turn order keyed is =
    let same : n.0 ≡ end = cc in
    subst (λ (e : Option (List ℕ)). Twice begin ((begin, None) ∷ n ∷ ns) (begin_of e)) same (twice_open begin n ns turn order.0 keyed.0)

pub two_copies : (from : Option (List ℕ)) (rs : List Ends) (end : Option (List ℕ)) → IsNoEmpty from → InTurnOrder rs → InOrder rs → Keyed rs → follow_from from rs ≡ Err (TwoCopies end) → Twice from rs (begin_of end)
unfolding follow_from
two_copies from [] end no_empty turn order keyed is = cc
two_copies from ((begin, None) ∷ rs) end no_empty turn order keyed is =
    twice_from from (begin, None) rs end no_empty order.0 keyed.0 (ends_open rs) (open_twice begin rs end turn order.1 keyed.1) is
two_copies from ((begin, Some to) ∷ rs) end no_empty turn order keyed is =
    twice_from from (begin, Some to) rs end no_empty order.0 keyed.0 (follow_from (Some to) rs)
    (λ later. twice_more begin to rs (begin_of end) (before_twice to rs end (order_tail (begin, Some to) rs turn) later)
    (two_copies (Some to) rs end keyed.0.1 (order_tail (begin, Some to) rs turn) order.1 keyed.1 later))
    is

then_fault : (first : Result (Unit {0}) CutFault) (bounds : List (List ℕ)) (fault : CutFault) → (first >>= λ _. Ok bounds) ≡ Err fault → first ≡ Err fault
then_fault (Ok done) bounds fault is = cc
then_fault (Err other) bounds fault is =
    let same : other ≡ fault = cc in
    ap Err same

-- a fault of ranges that are not too many is that of their order
follow_fault : (ranges : List Ends) (fault : CutFault) → (TooMany ≡ fault → ⊥) → layout_with ranges ≡ Err fault → follow_from None ranges ≡ Err fault
unfolding layout_with
follow_fault ranges fault other is =
    elim (nat_lt (MAX_BOUNDS + 1) (length ranges)) as (λ (t : Bool). cond t (Err TooMany) (follow_from None ranges >>= λ _. Ok (begins_of ranges)) ≡ Err fault → follow_from None ranges ≡ Err fault) [
      | true ↦ λ is.
          let same : TooMany ≡ fault = cc in
          absurd (other same)
      | false ↦ λ is. then_fault (follow_from None ranges) (begins_of ranges) fault is
    ] is

pub no_copy_has : (ranges : List Ends) (end : Option (List ℕ)) → InOrder ranges → Keyed ranges → BeginInOrder ranges → layout_with ranges ≡ Err (NoCopy end) → (count_having ranges (begin_of end) ≡ 0) × CutBelow (begin_of end) ranges
no_copy_has ranges end order keyed begins is =
    let gap = no_copy None ranges end (ordered ranges begins) order keyed (follow_fault ranges (NoCopy end) (λ same. cc) is) in
    (gap.none, λ other below. gap.once other refl below)

pub two_copies_have : (ranges : List Ends) (end : Option (List ℕ)) → InOrder ranges → Keyed ranges → BeginInOrder ranges → layout_with ranges ≡ Err (TwoCopies end) → (2 ≤ count_having ranges (begin_of end)) × CutBelow (begin_of end) ranges
two_copies_have ranges end order keyed begins is =
    let both = two_copies None ranges end tt (ordered ranges begins) order keyed (follow_fault ranges (TwoCopies end) (λ same. cc) is) in
    (both.twice refl, λ other below. both.once other refl below)
