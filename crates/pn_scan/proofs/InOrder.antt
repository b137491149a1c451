-- The cells of tablets in rising number are in key order, and candidates show what a query shows.
use Rattle.std.proofs.Common.{◌≡◌, ℕ, zero, suc, ◌+◌, ◌<◌, ◌≤◌, Bool, true, false, cond, List, [], ◌∷◌, ◌++◌, length, map, take, Some, None, Less, Equal, Greater, is_lt, refl, sym, ap, ◌∙◌, subst, arith, ◌&&◌, nat_le, Option}
use Rattle.std.specs.Prelude.{filter}
use Rattle.std.specs.List.{AllByRecursion, flat_map, range_with_len}
use Rattle.std.specs.Ordering.{ordering_reverse}
use Rattle.std.specs.Cmp.{alike_right}
use Rattle.std.specs.FinMap.{is_sorted}
use Rattle.std.proofs.lemmas.Cmp.{nat_list_cmp_total}
use Rattle.std.proofs.lemmas.Bool.Decides.{nat_tests}
use Rattle.std.proofs.lemmas.List.Elements.{filter-append}
use Rattle.pn_join.proofs.Rising.{Below, Rising, Rising-from_sorted, Below-append}
use Rattle.pn_record.specs.Cells.{Entries, spell}
use Rattle.pn_record.specs.Sets.{bytes_cmp}
use Rattle.pn_record.proofs.CellMaps.{rising-table_of}
use Rattle.pn_record.proofs.Sorted.{is_less, first_true, second_true, both_true}
use Rattle.pn_tablet.specs.Layouts.{Bounds, IsLayout, tablet_of, tablet_ends, Ends, is_below, in_range, is_from, is_before}
use Rattle.pn_tablet.specs.Tablets.{TabletStateValue, lie_in}
use Rattle.pn_tablet.proofs.LayoutFacts.{tablet_of-cons, tablet_of_key, is_not}
use Rattle.pn_scan.specs.Pages.{Look, cells_in, first_tablet, begins_before, is_candidate, rows_in, candidates_of}
use Rattle.pn_scan.specs.Views.{IsStateOf, IsFoundIn}
use Rattle.pn_scan.specs.Queries.{QueryValue}
use Rattle.pn_scan.specs.Shown.{is_after, is_asked, is_shown, shown_rows}
use Rattle.pn_scan.proofs.Walking.{below_not, not_asked, hidden_first}

-- The cells of tablets in rising number are in key order.

-- each number is less than those after it
abbrev pub Ascending : List ℕ → Type 0
Ascending [] = Unit {0}
Ascending (n ∷ ns) = AllByRecursion (λ m. n < m) ns × Ascending ns

pub not_below_either : (bound low high : List ℕ) → is_below low bound ≡ false → is_below high low ≡ false → is_below high bound ≡ false
not_below_either bound low high above higher =
    elim (is_below high bound) as (λ b. is_below high bound ≡ b → b ≡ false) [
      | true ↦ λ p. elim (bytes_cmp low bound) as (λ r. bytes_cmp low bound ≡ r → is_lt r ≡ false → true ≡ false) [
        | Less ↦ λ q past. cc
        | Equal ↦ λ q past. ap is_lt (sym (alike_right nat_list_cmp_total low bound high q ∙ is_less (bytes_cmp high bound) p)) ∙ higher
        | Greater ↦ λ q past. ap is_lt (sym (nat_list_cmp_total.trans high bound low (is_less (bytes_cmp high bound) p) (nat_list_cmp_total.antisymm bound low ∙ ap ordering_reverse q))) ∙ higher
      ] refl above
      | false ↦ λ p. refl
    ] refl

-- a key that is not below another is in no lesser tablet
pub named_rises : (bounds : Bounds) (low high : List ℕ) → is_below high low ≡ false → tablet_of bounds low ≤ tablet_of bounds high
named_rises [] low high above = omega arith
named_rises (bound ∷ bounds) low high above =
    elim (is_below low bound) as (λ b. is_below low bound ≡ b → tablet_of (bound ∷ bounds) low ≤ tablet_of (bound ∷ bounds) high) [
      | true ↦ λ p. omega (arith, tablet_of-cons bound bounds low true p, tablet_of-cons bound bounds high (is_below high bound) refl, named_rises bounds low high above)
      | false ↦ λ p. omega (arith, tablet_of-cons bound bounds low false p, tablet_of-cons bound bounds high false (not_below_either bound low high p above), named_rises bounds low high above)
    ] refl

-- a key of a tablet is less than one of a later tablet
key_before : (bounds : Bounds) (low high : List ℕ) (s t : ℕ) → IsLayout bounds → s < t → t ≤ length bounds → in_range (tablet_ends bounds s) low ≡ true → in_range (tablet_ends bounds t) high ≡ true → bytes_cmp low high ≡ Less
key_before bounds low high s t lawful later within lies lies_too =
    let named = tablet_of_key bounds low s lawful.rising (omega arith) lies in
    let named_too = tablet_of_key bounds high t lawful.rising within lies_too in
    elim (is_below low high) as (λ b. is_below low high ≡ b → bytes_cmp low high ≡ Less) [
      | true ↦ λ p. is_less (bytes_cmp low high) p
      | false ↦ λ p. absurd (omega (arith, named_rises bounds high low p, named, named_too, later))
    ] refl

inside_of : (bounds : Bounds) (tablet : ℕ) (state : TabletStateValue) → IsStateOf bounds tablet state → lie_in (tablet_ends bounds tablet) state.cells ≡ true
inside_of bounds tablet state is = ap (λ (ends : Ends). lie_in ends state.cells) (sym is.range) ∙ is.inside

pub found_inside : (bounds : Bounds) (look : Look) → IsFoundIn bounds look → lie_in (tablet_ends bounds look.0) (cells_in look.1) ≡ true
found_inside bounds (tablet, None) found = refl
found_inside bounds (tablet, Some state) found = inside_of bounds tablet state found

found_rising : (bounds : Bounds) (look : Look) → IsFoundIn bounds look → Rising bytes_cmp (cells_in look.1)
found_rising bounds (tablet, None) found = tt
found_rising bounds (tablet, Some state) found = Rising-from_sorted bytes_cmp state.cells (ap (λ (es : Entries). is_sorted bytes_cmp es) found.spelled ∙ rising-table_of (spell state.cells))

below_cells : (bounds : Bounds) (key : List ℕ) (s t : ℕ) (cells : Entries) → IsLayout bounds → s < t → t ≤ length bounds → in_range (tablet_ends bounds s) key ≡ true → lie_in (tablet_ends bounds t) cells ≡ true → Below bytes_cmp key cells
below_cells bounds key s t [] lawful later within lies inside = tt
below_cells bounds key s t (e ∷ es) lawful later within lies inside = (
  key_before bounds key e.0 s t lawful later within lies (first_true (in_range (tablet_ends bounds t) e.0) (lie_in (tablet_ends bounds t) es) inside),
  below_cells bounds key s t es lawful later within lies (second_true (in_range (tablet_ends bounds t) e.0) (lie_in (tablet_ends bounds t) es) inside),
)

abbrev pub all_cells_in : List Look → Entries
all_cells_in looks = flat_map (λ look. cells_in look.1) looks

-- looks that entered their tablets
abbrev pub AreThere : Bounds → List Look → Type 0
AreThere bounds looks = AllByRecursion (λ look. look.0 ≤ length bounds) looks

below_looks : (bounds : Bounds) (key : List ℕ) (s : ℕ) (looks : List Look) → IsLayout bounds → in_range (tablet_ends bounds s) key ≡ true → AllByRecursion (λ m. s < m) (map (λ look. look.0) looks) → AreThere bounds looks
    → AllByRecursion (IsFoundIn bounds) looks → Below bytes_cmp key (all_cells_in looks)
below_looks bounds key s [] lawful lies later there found = tt
below_looks bounds key s (look ∷ looks) lawful lies later there found =
    Below-append bytes_cmp key (cells_in look.1) (all_cells_in looks) (below_cells bounds key s look.0 (cells_in look.1) lawful later.0 there.0 lies (found_inside bounds look found.0))
    (below_looks bounds key s looks lawful lies later.1 there.1 found.1)

rising_then : (range : Ends) (cells more : Entries) → Rising bytes_cmp cells → lie_in range cells ≡ true → ((key : List ℕ) → in_range range key ≡ true → Below bytes_cmp key more) → Rising bytes_cmp more → Rising bytes_cmp (cells ++ more)
rising_then range [] more rises inside below rises_too = rises_too
rising_then range (e ∷ es) more rises inside below rises_too = (
  Below-append bytes_cmp e.0 es more rises.0 (below e.0 (first_true (in_range range e.0) (lie_in range es) inside)),
  rising_then range es more rises.1 (second_true (in_range range e.0) (lie_in range es) inside) below rises_too,
)

-- the cells that were found are in key order
pub all_rising : (bounds : Bounds) (looks : List Look) → IsLayout bounds → Ascending (map (λ look. look.0) looks) → AreThere bounds looks → AllByRecursion (IsFoundIn bounds) looks → Rising bytes_cmp (all_cells_in looks)
all_rising bounds [] lawful up there found = tt
all_rising bounds (look ∷ looks) lawful up there found =
    rising_then (tablet_ends bounds look.0) (cells_in look.1) (all_cells_in looks) (found_rising bounds look found.0) (found_inside bounds look found.0)
    (λ key lies. below_looks bounds key look.0 looks lawful lies up.0 there.1 found.1)
    (all_rising bounds looks lawful up.1 there.1 found.1)

-- numbers that a test keeps, and the first of them, ascend too
less_kept : (p : ℕ → Bool) (n : ℕ) (ns : List ℕ) → AllByRecursion (λ m. n < m) ns → AllByRecursion (λ m. n < m) (filter p ns)
less_kept p n [] less = tt
less_kept p n (m ∷ ns) less =
    elim (p m) as (λ b. AllByRecursion (λ other. n < other) (cond b (m ∷ filter p ns) (filter p ns))) [
      | true ↦ (less.0, less_kept p n ns less.1)
      | false ↦ less_kept p n ns less.1
    ]

ascending_kept : (p : ℕ → Bool) (ns : List ℕ) → Ascending ns → Ascending (filter p ns)
ascending_kept p [] up = tt
ascending_kept p (n ∷ ns) up =
    elim (p n) as (λ b. Ascending (cond b (n ∷ filter p ns) (filter p ns))) [
      | true ↦ (less_kept p n ns up.0, ascending_kept p ns up.1)
      | false ↦ ascending_kept p ns up.1
    ]

less_front : (k n : ℕ) (ns : List ℕ) → AllByRecursion (λ m. n < m) ns → AllByRecursion (λ m. n < m) (take k ns)
less_front zero n ns less = tt
less_front (suc k) n [] less = tt
less_front (suc k) n (m ∷ ns) less = (less.0, less_front k n ns less.1)

ascending_front : (k : ℕ) (ns : List ℕ) → Ascending ns → Ascending (take k ns)
ascending_front zero ns up = tt
ascending_front (suc k) [] up = tt
ascending_front (suc k) (n ∷ ns) up = (less_front k n ns up.0, ascending_front k ns up.1)

less_range : (n a len : ℕ) → n < a → AllByRecursion (λ m. n < m) (range_with_len a len)
less_range n a zero less = tt
less_range n a (suc len) less = (less, less_range n (a + 1) len (omega arith))

ascending_range : (a len : ℕ) → Ascending (range_with_len a len)
ascending_range a zero = tt
ascending_range a (suc len) = (less_range a (a + 1) len (omega arith), ascending_range (a + 1) len)

pub ascending_first : (p : ℕ → Bool) (k a len : ℕ) → Ascending (take k (filter p (range_with_len a len)))
ascending_first p k a len = ascending_front k (filter p (range_with_len a len)) (ascending_kept p (range_with_len a len) (ascending_range a len))

-- and stay below the end of their range
ends_range : (a len end : ℕ) → a + len ≤ end → AllByRecursion (λ m. m < end) (range_with_len a len)
ends_range a zero end within = tt
ends_range a (suc len) end within = (omega arith, ends_range (a + 1) len end (omega arith))

ends_kept : (p : ℕ → Bool) (end : ℕ) (ns : List ℕ) → AllByRecursion (λ m. m < end) ns → AllByRecursion (λ m. m < end) (filter p ns)
ends_kept p end [] less = tt
ends_kept p end (m ∷ ns) less =
    elim (p m) as (λ b. AllByRecursion (λ other. other < end) (cond b (m ∷ filter p ns) (filter p ns))) [
      | true ↦ (less.0, ends_kept p end ns less.1)
      | false ↦ ends_kept p end ns less.1
    ]

ends_front : (k end : ℕ) (ns : List ℕ) → AllByRecursion (λ m. m < end) ns → AllByRecursion (λ m. m < end) (take k ns)
ends_front zero end ns less = tt
ends_front (suc k) end [] less = tt
ends_front (suc k) end (m ∷ ns) less = (less.0, ends_front k end ns less.1)

there_from : (bounds : Bounds) (looks : List Look) → AllByRecursion (λ m. m < length bounds + 1) (map (λ look. look.0) looks) → AreThere bounds looks
there_from bounds [] less = tt
there_from bounds (look ∷ looks) less = (omega (arith, less.0), there_from bounds looks less.1)

pub there_first : (bounds : Bounds) (p : ℕ → Bool) (k : ℕ) (looks : List Look) → map (λ look. look.0) looks ≡ take k (filter p (range_with_len 0 (length bounds + 1))) → AreThere bounds looks
there_first bounds p k looks is =
    there_from bounds looks
    (subst (λ (ns : List ℕ). AllByRecursion (λ m. m < length bounds + 1) ns) (sym is)
    (ends_front k (length bounds + 1) (filter p (range_with_len 0 (length bounds + 1))) (ends_kept p (length bounds + 1) (range_with_len 0 (length bounds + 1)) (ends_range 0 (length bounds + 1) (length bounds + 1) (omega arith)))))

-- What a query shows is shown by its candidates.

le_true : (m n : ℕ) → m ≤ n → nat_le m n ≡ true
le_true m n le = grind (arith, nat_tests)

-- a key that a query asks for is in a candidate
from_named : (bounds : Bounds) (end : Option (List ℕ)) (key : List ℕ) → is_from end key ≡ true → first_tablet bounds end ≤ tablet_of bounds key
from_named bounds None key from = omega arith
from_named bounds (Some end) key from = named_rises bounds end key (is_not (is_below key end) from)

after_named : (bounds : Bounds) (end : Option (List ℕ)) (key : List ℕ) → is_after end key ≡ true → first_tablet bounds end ≤ tablet_of bounds key
after_named bounds None key after = omega arith
after_named bounds (Some end) key after = named_rises bounds end key (below_not end key after)

begins_there : (from to : Option (List ℕ)) (key : List ℕ) → is_from from key ≡ true → is_before to key ≡ true → begins_before from to ≡ true
begins_there None to key above below = refl
begins_there (Some from) None key above below = refl
begins_there (Some from) (Some to) key above lower =
    elim (is_below from to) as (λ b. is_below from to ≡ b → b ≡ true) [
      | true ↦ λ p. refl
      | false ↦ λ p. sym (not_below_either to from key p (is_not (is_below key from) above)) ∙ lower
    ] refl

parts_true : (a b c : Bool) → (a && b && c) ≡ true → (a ≡ true) × (b ≡ true) × (c ≡ true)
parts_true true true c all = (refl, refl, all)
parts_true true false c all = cc
parts_true false b c all = cc

three_true : (a b c : Bool) → a ≡ true → b ≡ true → c ≡ true → (a && b && c) ≡ true
three_true a b c p q r = both_true _ _ (both_true a b p q) r

asked_there : (bounds : Bounds) (query : QueryValue) (tablet : ℕ) (key : List ℕ) → IsLayout bounds → tablet ≤ length bounds → in_range (tablet_ends bounds tablet) key ≡ true → is_asked query key ≡ true → is_candidate bounds query tablet ≡ true
asked_there bounds query tablet key lawful within lies asked =
    let parts = parts_true (is_from query.from key) (is_before query.to key) (is_after query.after key) asked in
    let named = tablet_of_key bounds key tablet lawful.rising within lies in
    three_true (nat_le (first_tablet bounds query.from) tablet) (nat_le (first_tablet bounds query.after) tablet) (begins_before (tablet_ends bounds tablet).0 query.to)
    (le_true _ tablet (omega (arith, named, from_named bounds query.from key parts.0)))
    (le_true _ tablet (omega (arith, named, after_named bounds query.after key parts.2)))
    (begins_there (tablet_ends bounds tablet).0 query.to key (first_true _ (is_before (tablet_ends bounds tablet).1 key) lies) parts.1)

hidden_all : (query : QueryValue) (range : Ends) (cells : Entries) → lie_in range cells ≡ true → ((key : List ℕ) → in_range range key ≡ true → is_asked query key ≡ false) → shown_rows query cells ≡ []
hidden_all query range [] inside none = refl
hidden_all query range (e ∷ es) inside none =
    hidden_first query e es (not_asked query e (none e.0 (first_true (in_range range e.0) (lie_in range es) inside)))
    ∙ hidden_all query range es (second_true (in_range range e.0) (lie_in range es) inside) none

hidden_tablet : (bounds : Bounds) (query : QueryValue) (look : Look) → IsLayout bounds → look.0 ≤ length bounds → IsFoundIn bounds look → is_candidate bounds query look.0 ≡ false → shown_rows query (cells_in look.1) ≡ []
hidden_tablet bounds query look lawful within found out =
    hidden_all query (tablet_ends bounds look.0) (cells_in look.1) (found_inside bounds look found)
    (λ key lies. elim (is_asked query key) as (λ b. is_asked query key ≡ b → b ≡ false) [
      | true ↦ λ asked. sym (asked_there bounds query look.0 key lawful within lies asked) ∙ out
      | false ↦ λ hides. refl
    ] refl)

rows_first : (query : QueryValue) (look : Look) (looks : List Look) → rows_in query (look ∷ looks) ≡ shown_rows query (cells_in look.1) ++ rows_in query looks
rows_first query look looks = filter-append (is_shown query) (cells_in look.1) (flat_map (λ (other : Look). cells_in other.1) looks)

-- what is shown is shown by candidates
pub rows_of_candidates : (bounds : Bounds) (query : QueryValue) (looks : List Look) → IsLayout bounds → AreThere bounds looks → AllByRecursion (IsFoundIn bounds) looks → rows_in query looks ≡ rows_in query (candidates_of bounds query looks)
rows_of_candidates bounds query [] lawful there found = refl
rows_of_candidates bounds query (look ∷ looks) lawful there found =
    let rest = candidates_of bounds query looks in
    let later = rows_of_candidates bounds query looks lawful there.1 found.1 in
    elim (is_candidate bounds query look.0) as (λ b. is_candidate bounds query look.0 ≡ b → rows_in query (look ∷ looks) ≡ rows_in query (cond b (look ∷ rest) rest)) [
      | true ↦ λ p. rows_first query look looks ∙ ap (λ (es : Entries). shown_rows query (cells_in look.1) ++ es) later ∙ sym (rows_first query look rest)
      | false ↦ λ p. rows_first query look looks ∙ ap (λ (es : Entries). es ++ rows_in query looks) (hidden_tablet bounds query look lawful there.0 found.0 p) ∙ later
    ] refl
