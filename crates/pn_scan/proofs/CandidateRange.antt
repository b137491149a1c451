-- The candidates of a query are numbers that follow one another, and which of them are visited.
use Rattle.std.proofs.Common.{◌≡◌, ℕ, zero, suc, ◌+◌, ◌-◌, ◌<◌, ◌≤◌, Bool, true, false, ◌&&◌, cond, List, [], ◌∷◌, length, max, nat_lt, nat_le, slice_get, Some, Less, Equal, Greater, is_lt, inl, inr, refl, sym, ap, ◌∙◌, arith, zero-add, one-add, ◌++◌, map, take, Option, None, subst, append_assoc, length-append}
use Rattle.std.specs.Prelude.{filter}
use Rattle.std.specs.List.{range_with_len, list_all}
use Rattle.std.specs.List.Sorted.{IsStrictlySortedBy}
use Rattle.std.specs.Ordering.{ordering_reverse}
use Rattle.std.specs.Cmp.{alike_right}
use Rattle.std.proofs.lemmas.Bool.{cases_lt}
use Rattle.std.proofs.lemmas.Bool.Decides.{nat_tests}
use Rattle.std.proofs.lemmas.Cmp.{nat_list_cmp_total}
use Rattle.std.proofs.Math.Seq.{take-append_seam}
use Rattle.pn_record.specs.Sets.{bytes_cmp}
use Rattle.pn_record.proofs.Sorted.{is_less, both_true}
use Rattle.pn_record.specs.Cells.{Entries}
use Rattle.pn_tablet.specs.Layouts.{Bounds, tablet_of, tablet_ends, IsLayout, is_below}
use Rattle.pn_tablet.proofs.LayoutFacts.{tablet_of-cons, first_tablet as none_named, tablet_of_within}
use Rattle.pn_scan.specs.Queries.{QueryValue}
use Rattle.pn_scan.specs.Pages.{first_tablet, begins_before, is_candidate, candidates, Look, rows_in, looks_below, is_visited}
use Rattle.pn_scan.proofs.Continuing.{Numbered, AllFew, below_here}
use Rattle.pn_scan.proofs.Scans.{rows-append}

-- The candidates of a query are numbers that follow one another.

-- the numbers of a range between two others
abbrev Between : (ℕ → Bool) → ℕ → ℕ → ℕ → ℕ → Type 0
Between p first end a n = (t : ℕ) → a ≤ t → t < a + n → p t ≡ (nat_le first t && nat_lt t end)

inside : (first end t : ℕ) → first ≤ t → t < end → (nat_le first t && nat_lt t end) ≡ true
inside first end t from before = grind (arith, nat_tests)

before_first : (first end t : ℕ) → t < first → (nat_le first t && nat_lt t end) ≡ false
before_first first end t low = grind (arith, nat_tests)

past_end : (first end t : ℕ) → end ≤ t → (nat_le first t && nat_lt t end) ≡ false
past_end first end t high = grind (arith, nat_tests)

next_between : (p : ℕ → Bool) (first end a n : ℕ) → Between p first end a (suc n) → Between p first end (a + 1) n
next_between p first end a n between t from before = between t (omega arith) (omega arith)

same_more : (first t end : ℕ) → first + 1 ≤ t → (nat_le first t && nat_lt t end) ≡ (nat_le (first + 1) t && nat_lt t end)
same_more first t end above = grind (arith, nat_tests)

both_first : (t a b end : ℕ) → (nat_le a t && nat_le b t && nat_lt t end) ≡ (nat_le (max a b) t && nat_lt t end)
both_first t a b end = grind (arith, nat_tests)

range_none : (first end : ℕ) → end ≤ first → range_with_len first (end - first) ≡ []
range_none first end past = let e : end - first ≡ 0 = omega arith in ap (range_with_len first) e

none_kept : (p : ℕ → Bool) (first end a n : ℕ) → Between p first end a n → end ≤ a → filter p (range_with_len a n) ≡ []
none_kept p first end a zero between past = refl
none_kept p first end a (suc n) between past =
    ap (λ b. cond b (a ∷ filter p (range_with_len (a + 1) n)) (filter p (range_with_len (a + 1) n))) (between a (omega arith) (omega arith) ∙ past_end first end a past)
    ∙ none_kept p first end (a + 1) n (next_between p first end a n between) (omega arith)

pub kept_range : (p : ℕ → Bool) (first end a n : ℕ) → Between p first end a n → a ≤ first → end ≤ a + n → filter p (range_with_len a n) ≡ range_with_len first (end - first)
kept_range p first end a zero between from within = sym (range_none first end (omega arith))
kept_range p first end a (suc n) between from within =
    elim (cases_lt a first) [
      | inl low ↦
          ap (λ b. cond b (a ∷ filter p (range_with_len (a + 1) n)) (filter p (range_with_len (a + 1) n))) (between a (omega arith) (omega arith) ∙ before_first first end a low)
          ∙ kept_range p first end (a + 1) n (next_between p first end a n between) (omega arith) (omega arith)
      | inr high ↦ elim (cases_lt a end) [
        | inl before ↦
            let is_first : first ≡ a = omega arith in
            let later : Between p (a + 1) end (a + 1) n = λ t at below. between t (omega arith) (omega arith) ∙ ap (λ f. nat_le f t && nat_lt t end) is_first ∙ same_more a t end at in
            let size : end - first ≡ suc (end - (a + 1)) = omega arith in
            ap (λ b. cond b (a ∷ filter p (range_with_len (a + 1) n)) (filter p (range_with_len (a + 1) n))) (between a (omega arith) (omega arith) ∙ inside first end a high before)
            ∙ ap (λ l. a ∷ l) (kept_range p (a + 1) end (a + 1) n later (omega arith) (omega arith))
            ∙ (λ i. range_with_len (sym is_first i) (sym size i))
        | inr past ↦ none_kept p first end a (suc n) between past ∙ sym (range_none first end (omega arith))
      ]
    ]

-- the bounds that a key is not below
zero_named : (bound : List ℕ) (bounds : Bounds) (key : List ℕ) → IsStrictlySortedBy bytes_cmp (bound ∷ bounds) → is_below key bound ≡ true → tablet_of (bound ∷ bounds) key ≡ 0
unfolding IsStrictlySortedBy
zero_named bound bounds key rising lower = tablet_of-cons bound bounds key true lower ∙ zero-add _ ∙ none_named bound bounds key lower rising.0

one_named : (bound : List ℕ) (bounds : Bounds) (key : List ℕ) → is_below key bound ≡ false → tablet_of (bound ∷ bounds) key ≡ suc (tablet_of bounds key)
one_named bound bounds key above = tablet_of-cons bound bounds key false above ∙ one-add _

-- what is below a key that is not below another is below the other's
below_other : (bound next key : List ℕ) → bytes_cmp bound next ≡ Less → is_below key next ≡ false → is_below bound key ≡ true
below_other bound next key rises above =
    elim (bytes_cmp key next) as (λ r. bytes_cmp key next ≡ r → is_lt r ≡ false → is_below bound key ≡ true) [
      | Less ↦ λ p low. cc
      | Equal ↦ λ p low. ap is_lt (alike_right nat_list_cmp_total key next bound p ∙ rises)
      | Greater ↦ λ p low. ap is_lt (nat_list_cmp_total.trans bound next key rises (nat_list_cmp_total.antisymm next key ∙ ap ordering_reverse p))
    ] refl above

bound_before : (bounds : Bounds) (m : ℕ) (bound key : List ℕ) → IsStrictlySortedBy bytes_cmp bounds → slice_get bounds m ≡ Some bound → suc m < tablet_of bounds key → is_below bound key ≡ true
unfolding IsStrictlySortedBy
bound_before [] m bound key rising there before = absurd (omega (arith, before))
bound_before (first ∷ []) zero bound key rising there before =
    elim (is_below key first) as (λ b. is_below key first ≡ b → is_below bound key ≡ true) [
      | true ↦ λ p. absurd (omega (arith, before, zero_named first [] key rising p))
      | false ↦ λ p. absurd (omega (arith, before, one_named first [] key p))
    ] refl
bound_before (first ∷ next ∷ bounds) zero bound key rising there before =
    elim (is_below key first) as (λ b. is_below key first ≡ b → is_below bound key ≡ true) [
      | true ↦ λ p. absurd (omega (arith, before, zero_named first (next ∷ bounds) key rising p))
      | false ↦ λ p. elim (is_below key next) as (λ b. is_below key next ≡ b → is_below bound key ≡ true) [
        | true ↦ λ q. absurd (omega (arith, before, one_named first (next ∷ bounds) key p, zero_named next bounds key rising.1 q))
        | false ↦ λ q. let same : first ≡ bound = cc in ap (λ k. is_below k key) (sym same) ∙ below_other first next key rising.0.0 q
      ] refl
    ] refl
bound_before (first ∷ bounds) (suc m) bound key rising there before =
    elim (is_below key first) as (λ b. is_below key first ≡ b → is_below bound key ≡ true) [
      | true ↦ λ p. absurd (omega (arith, before, zero_named first bounds key rising p))
      | false ↦ λ p. bound_before bounds m bound key rising.1 there (omega (arith, before, one_named first bounds key p))
    ] refl

ahead : (bounds : Bounds) (m : ℕ) (bound key : List ℕ) → IsStrictlySortedBy bytes_cmp bounds → slice_get bounds m ≡ Some bound → tablet_of bounds key < suc m → is_below bound key ≡ false
unfolding IsStrictlySortedBy
ahead [] m bound key rising there past = cc
ahead (first ∷ bounds) zero bound key rising there past =
    elim (is_below key first) as (λ b. is_below key first ≡ b → is_below bound key ≡ false) [
      | true ↦ λ p. let same : first ≡ bound = cc in ap (λ k. is_below k key) (sym same) ∙ ap is_lt (nat_list_cmp_total.antisymm first key ∙ ap ordering_reverse (is_less (bytes_cmp key first) p))
      | false ↦ λ p. absurd (omega (arith, past, one_named first bounds key p))
    ] refl
ahead (first ∷ bounds) (suc m) bound key rising there past =
    elim (is_below key first) as (λ b. is_below key first ≡ b → is_below bound key ≡ false) [
      | true ↦ λ p. ahead bounds m bound key rising.1 there (omega (arith, none_named first bounds key p rising.0))
      | false ↦ λ p. ahead bounds m bound key rising.1 there (omega (arith, past, one_named first bounds key p))
    ] refl

lt_true : (m n : ℕ) → m < n → nat_lt m n ≡ true
lt_true m n less = grind (arith, nat_tests)

lt_false : (m n : ℕ) → n ≤ m → nat_lt m n ≡ false
lt_false m n more = grind (arith, nat_tests)

at_least : (begins : Bool) (named end : ℕ) {t : ℕ} → end ≡ cond begins (named + 1) named → t < named → t < end
at_least true named end is lower = omega arith
at_least false named end is lower = omega arith

at_most : (begins : Bool) (named end : ℕ) {t : ℕ} → end ≡ cond begins (named + 1) named → named < t → end ≤ t
at_most true named end is above = omega arith
at_most false named end is above = omega arith

exactly : (begins : Bool) (named end t : ℕ) → end ≡ cond begins (named + 1) named → t ≡ named → begins ≡ nat_lt t end
exactly true named end t is same = sym (lt_true t end (omega arith))
exactly false named end t is same = sym (lt_false t end (omega arith))

by_bound : (bounds : Bounds) (m : ℕ) (key : List ℕ) (b : Bool) → m < length bounds → ((bound : List ℕ) → slice_get bounds m ≡ Some bound → is_below bound key ≡ b) → begins_before (slice_get bounds m) (Some key) ≡ b
by_bound [] m key b inside each = absurd (omega arith)
by_bound (first ∷ bounds) zero key b inside each = each first refl
by_bound (first ∷ bounds) (suc m) key b inside each = by_bound bounds m key b (omega arith) each

begins_lower : (bounds : Bounds) (key : List ℕ) (t : ℕ) → IsStrictlySortedBy bytes_cmp bounds → t ≤ length bounds → t < tablet_of bounds key → begins_before (tablet_ends bounds t).0 (Some key) ≡ true
begins_lower bounds key zero rising within lower = refl
begins_lower bounds key (suc m) rising within lower = by_bound bounds m key true (omega arith) (λ bound there. bound_before bounds m bound key rising there lower)

begins_above : (bounds : Bounds) (key : List ℕ) (t : ℕ) → IsStrictlySortedBy bytes_cmp bounds → t ≤ length bounds → tablet_of bounds key < t → begins_before (tablet_ends bounds t).0 (Some key) ≡ false
begins_above bounds key zero rising within above = absurd (omega arith)
begins_above bounds key (suc m) rising within above = by_bound bounds m key false (omega arith) (λ bound there. ahead bounds m bound key rising there above)

-- where candidates begin before the end, by the tablet of the end and whether that one begins before it
pub ends_there : (bounds : Bounds) (key : List ℕ) (begins : Bool) (end : ℕ) → IsStrictlySortedBy bytes_cmp bounds → begins ≡ begins_before (tablet_ends bounds (tablet_of bounds key)).0 (Some key)
    → end ≡ cond begins (tablet_of bounds key + 1) (tablet_of bounds key) → (t : ℕ) → t ≤ length bounds → begins_before (tablet_ends bounds t).0 (Some key) ≡ nat_lt t end
ends_there bounds key begins end rising is is_end t within =
    elim (cases_lt t (tablet_of bounds key)) [
      | inl lower ↦ begins_lower bounds key t rising within lower ∙ sym (lt_true t end (at_least begins (tablet_of bounds key) end is_end lower))
      | inr higher ↦ elim (cases_lt (tablet_of bounds key) t) [
        | inl above ↦ begins_above bounds key t rising within above ∙ sym (lt_false t end (at_most begins (tablet_of bounds key) end is_end above))
        | inr same ↦
            let e : t ≡ tablet_of bounds key = omega arith in
            ap (λ n. begins_before (tablet_ends bounds n).0 (Some key)) e ∙ sym is ∙ exactly begins (tablet_of bounds key) end t is_end e
      ]
    ]

-- the candidates from the first to the end
pub candidates_between : (bounds : Bounds) (query : QueryValue) (first end : ℕ) → first ≡ max (first_tablet bounds query.from) (first_tablet bounds query.after) → end ≤ length bounds + 1
    → ((t : ℕ) → t ≤ length bounds → begins_before (tablet_ends bounds t).0 query.to ≡ nat_lt t end) → candidates bounds query ≡ range_with_len first (end - first)
candidates_between bounds query first end is within exact =
    kept_range (is_candidate bounds query) first end 0 (length bounds + 1)
    (λ t from before. ap (λ b. nat_le (first_tablet bounds query.from) t && nat_le (first_tablet bounds query.after) t && b) (exact t (omega arith)) ∙ both_first t (first_tablet bounds query.from) (first_tablet bounds query.after) end ∙ ap (λ f. nat_le f t && nat_lt t end) (sym is))
    (omega arith) (omega arith)

-- Which candidates are visited, where the first of them were read.

le_true : (m n : ℕ) → m ≤ n → nat_le m n ≡ true
le_true m n le = grind (arith, nat_tests)

le_false : (m n : ℕ) → n < m → nat_le m n ≡ false
le_false m n past = grind (arith, nat_tests)

-- the candidates of a query are numbers that follow one another
open_begins : (from : Option (List ℕ)) → begins_before from None ≡ true
open_begins None = refl
open_begins (Some from) = refl

end_within : (begins : Bool) (named count : ℕ) → named ≤ count → cond begins (named + 1) named ≤ count + 1
end_within true named count within = omega arith
end_within false named count within = omega arith

abbrev pub AreRange : Bounds → QueryValue → Type 0
AreRange bounds query = (first : ℕ) × (len : ℕ) × (candidates bounds query ≡ range_with_len first len)

range_to : (bounds : Bounds) (query : QueryValue) → IsLayout bounds → (to : Option (List ℕ)) → query.to ≡ to → AreRange bounds query
range_to bounds query lawful None is =
    let first = max (first_tablet bounds query.from) (first_tablet bounds query.after) in (
      first,
      length bounds + 1 - first,
      candidates_between bounds query first (length bounds + 1) refl (omega arith)
          (λ t within. ap (begins_before (tablet_ends bounds t).0) is ∙ open_begins (tablet_ends bounds t).0 ∙ sym (lt_true t (length bounds + 1) (omega arith))),
    )
range_to bounds query lawful (Some to) is =
    let first = max (first_tablet bounds query.from) (first_tablet bounds query.after) in
    let begins = begins_before (tablet_ends bounds (tablet_of bounds to)).0 (Some to) in
    let end = cond begins (tablet_of bounds to + 1) (tablet_of bounds to) in (
      first,
      end - first,
      candidates_between bounds query first end refl (end_within begins (tablet_of bounds to) (length bounds) (tablet_of_within bounds to))
          (λ t within. ap (begins_before (tablet_ends bounds t).0) is ∙ ends_there bounds to begins end lawful.rising refl refl t within),
    )

pub range_of : (bounds : Bounds) (query : QueryValue) → IsLayout bounds → AreRange bounds query
range_of bounds query lawful = range_to bounds query lawful query.to refl

-- looks whose numbers are the first of a range count up
pub numbered_from : (k n len : ℕ) (looks : List Look) → map (λ look. look.0) looks ≡ take k (range_with_len n len) → Numbered n looks
numbered_from k n len [] is = tt
numbered_from zero n len (look ∷ looks) is = cc
numbered_from (suc k) n zero (look ∷ looks) is = cc
numbered_from (suc k) n (suc len) (look ∷ looks) is = (cc, numbered_from k (n + 1) len looks cc)

-- looks before others are visited by what is before them
pub visited_in : (query : QueryValue) (n : ℕ) (front back more : List Look) → Numbered n (front ++ (back ++ more)) → AllFew query (front ++ back) → list_all (is_visited query (front ++ (back ++ more))) back ≡ true
visited_in query n front [] more numbered few = refl
visited_in query n front (look ∷ back) more numbered few =
    let short : length front < length (front ++ look ∷ back) = omega (arith, length-append front (look ∷ back)) in
    let before : take (length front) (front ++ look ∷ back) ≡ looks_below look.0 (front ++ look ∷ (back ++ more)) = take-append_seam front (look ∷ back) ∙ sym (below_here n front look (back ++ more) numbered) in
    let here = subst (λ (l : List Look). length (rows_in query l) ≤ query.limit) before (few (length front) short) in
    let same : (front ++ look ∷ []) ++ (back ++ more) ≡ front ++ look ∷ (back ++ more) = append_assoc front (look ∷ []) (back ++ more) in
    let same_few : (front ++ look ∷ []) ++ back ≡ front ++ look ∷ back = append_assoc front (look ∷ []) back in
    let rest = visited_in query n (front ++ look ∷ []) back more (subst (Numbered n) (sym same) numbered) (subst (AllFew query) (sym same_few) few) in
    both_true _ _ (le_true (length (rows_in query (looks_below look.0 (front ++ look ∷ (back ++ more))))) query.limit here) (subst (λ (all : List Look). list_all (is_visited query all) back ≡ true) same rest)

-- and after a full page none is
pub not_visited : (query : QueryValue) (n : ℕ) (seen front back : List Look) → Numbered n (seen ++ (front ++ back)) → query.limit < length (rows_in query seen) → filter (is_visited query (seen ++ (front ++ back))) back ≡ []
not_visited query n seen front [] numbered full = refl
not_visited query n seen front (look ∷ back) numbered full =
    let all = seen ++ (front ++ look ∷ back) in
    let parted : (seen ++ front) ++ look ∷ back ≡ all = append_assoc seen front (look ∷ back) in
    let before : looks_below look.0 all ≡ seen ++ front = ap (looks_below look.0) (sym parted) ∙ below_here n (seen ++ front) look back (subst (Numbered n) (sym parted) numbered) in
    let size = ap (λ (l : List Look). length (rows_in query l)) before ∙ ap (λ (es : Entries). length es) (rows-append query seen front) ∙ length-append (rows_in query seen) (rows_in query front) in
    let hides : is_visited query all look ≡ false = le_false (length (rows_in query (looks_below look.0 all))) query.limit (omega (arith, size, full)) in
    let same : (front ++ look ∷ []) ++ back ≡ front ++ look ∷ back = append_assoc front (look ∷ []) back in
    ap (λ b. cond b (look ∷ filter (is_visited query all) back) (filter (is_visited query all) back)) hides
    ∙ subst (λ (l : List Look). filter (is_visited query (seen ++ l)) back ≡ []) same (not_visited query n seen (front ++ look ∷ []) back (subst (λ (l : List Look). Numbered n (seen ++ l)) (sym same) numbered) full)
