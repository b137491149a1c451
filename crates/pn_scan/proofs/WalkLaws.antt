-- Pages that are walked by their own continuations: keys rise, and unchanged tablets are seen whole.
use Rattle.std.proofs.Common.{◌≡◌, ℕ, zero, suc, ◌<◌, ◌≤◌, inl, inr, Bool, true, false, cond, List, [], ◌∷◌, ◌++◌, length, take, nat_lt, Option, Some, None, option_map, Ok, refl, sym, ap, ◌∙◌, subst, arith, append-nil, append_assoc, ◌+◌, Less}
use Rattle.std.specs.Prelude.{filter}
use Rattle.std.specs.List.{flat_map, last_or, AllByRecursion}
use Rattle.std.specs.Option.{option_or}
use Rattle.std.proofs.lemmas.Bool.{cases_lt}
use Rattle.std.proofs.lemmas.Bool.Decides.{nat_tests}
use Rattle.std.proofs.lemmas.List.{take_all, take-append-drop, length-drop}
use Rattle.std.proofs.lemmas.Cmp.{nat_list_cmp_total}
use Rattle.pn_join.proofs.Rising.{Rising, Below, Below-append}
use Rattle.pn_record.specs.Cells.{Entries}
use Rattle.pn_record.specs.Sets.{bytes_cmp}
use Rattle.pn_record.proofs.Sorted.{is_less}
use Rattle.pn_tablet.specs.Layouts.{Bounds, IsLayout, is_from, is_before}
use Rattle.pn_scan.specs.Queries.{QueryValue, query_after}
use Rattle.pn_scan.specs.Shown.{shown_rows, is_after, is_shown, has_shown}
use Rattle.pn_scan.specs.Pages.{Look, cells_in, rows_in, is_candidate, is_visited, candidates_of, visited, PageValue, refusal, first_refusal, next_of, first_page, page_of, unless}
use Rattle.pn_scan.specs.Views.{IsPageOf, ArePages, left_by, rows_of, rows_left, IsSomePage, IsVisit}
use Rattle.pn_scan.specs.declared.view.ScanFault.{ScanFault}
use Rattle.pn_scan.proofs.Continuing.{Row, shown_after, last_above, third_true, after_too, rising_kept}
use Rattle.pn_scan.proofs.Scans.{or_none, ok_value}
use Rattle.pn_scan.proofs.InOrder.{Ascending, ascending_first, there_first, all_rising}

-- Pages that are walked by their own continuations, while tablets stay as they are.

-- how a page ends: with all rows, or with a continuation after the last of its own
pub data Ending (query : QueryValue) (rows : Entries) (page : PageValue) : Type 0 where
  whole : page.1 ≡ None → page.0 ≡ rows → length rows ≤ query.limit → Ending query rows page
  goes_on : (row : Row) → last_or None (take query.limit rows) ≡ Some row → page.1 ≡ Some (query_after query row.0) → page.0 ≡ take query.limit rows → query.limit < length rows → Ending query rows page

has_last : {A : Type 0} (o : Option A) (x : A) (xs : List A) → (y : A) × (last_or o (x ∷ xs) ≡ Some y)
has_last o x [] = (x, refl)
has_last o x (y ∷ ys) = has_last (Some x) y ys

has_last_of : {A : Type 0} (n : ℕ) (xs : List A) → 0 < n → n < length xs → (y : A) × (last_or None (take n xs) ≡ Some y)
has_last_of zero xs some within = absurd (omega arith)
has_last_of (suc n) [] some within = absurd (omega arith)
has_last_of (suc n) (x ∷ xs) some within = has_last None x (take n xs)

lt_true : (m n : ℕ) → m < n → nat_lt m n ≡ true
lt_true m n less = grind (arith, nat_tests)

lt_false : (m n : ℕ) → n ≤ m → nat_lt m n ≡ false
lt_false m n past = grind (arith, nat_tests)

pub ending_of : (query : QueryValue) (rows : Entries) (page : PageValue) → 0 < query.limit → page ≡ first_page query rows → Ending query rows page
ending_of query rows page some is =
    elim (cases_lt query.limit (length rows)) [
      | inl within ↦
          let last = has_last_of query.limit rows some within in
          goes_on last.0 last.1
          (ap (λ (p : PageValue). p.1) is ∙ ap (λ b. cond b (next_of query rows) None) (lt_true query.limit (length rows) within) ∙ ap (option_map (λ (row : Row). query_after query row.0)) last.1)
          (ap (λ (p : PageValue). p.0) is) within
      | inr few ↦
          whole (ap (λ (p : PageValue). p.1) is ∙ ap (λ b. cond b (next_of query rows) None) (lt_false query.limit (length rows) few))
          (ap (λ (p : PageValue). p.0) is ∙ take_all query.limit rows few) few
    ]

-- the pages ask for at least one row
abbrev pub HasRoom : Option QueryValue → Type 0
HasRoom None = Unit {0}
HasRoom (Some query) = 0 < query.limit

-- the rows that a continuation still asks for, of these cells
abbrev rows_still : Entries → Option QueryValue → Entries
rows_still cells None = []
rows_still cells (Some query) = shown_rows query cells

-- a page is the first of the rows that cells show
abbrev pub IsCutFrom : Entries → QueryValue → PageValue → Type 0
IsCutFrom cells query page = page ≡ first_page query (shown_rows query cells)

pub room_left : (query : QueryValue) (rows : Entries) (page : PageValue) → 0 < query.limit → Ending query rows page → HasRoom page.1
room_left query rows page some (whole last all few) = subst HasRoom (sym last) tt
room_left query rows page some (goes_on row at next front within) = subst HasRoom (sym next) some

module _ (cells : Entries) (rises : Rising bytes_cmp cells) where
  page_and_rest : (query : QueryValue) (page : PageValue) → Ending query (shown_rows query cells) page → page.0 ++ rows_still cells page.1 ≡ shown_rows query cells
  page_and_rest query page (whole last all few) = (λ i. all i ++ rows_still cells (last i)) ∙ append-nil (shown_rows query cells)
  page_and_rest query page (goes_on row at next front within) =
      (λ i. front i ++ rows_still cells (next i))
      ∙ ap (λ (es : Entries). take query.limit (shown_rows query cells) ++ es) (shown_after query cells query.limit row rises at)
      ∙ take-append-drop query.limit (shown_rows query cells)

  -- the rows of pages, and those that are left, are all
  walked_from : (is_page : QueryValue → PageValue → Type 0) → ((query : QueryValue) (page : PageValue) → is_page query page → IsCutFrom cells query page)
      → (asked : Option QueryValue) (pages : List PageValue) → HasRoom asked → ArePages is_page asked pages → rows_of pages ++ rows_still cells (left_by asked pages) ≡ rows_still cells asked
  walked_from is_page cut asked [] some are = refl
  walked_from is_page cut None (page ∷ pages) some are = absurd are
  walked_from is_page cut (Some query) (page ∷ pages) some are =
      let ending = ending_of query (shown_rows query cells) page some (cut query page are.0) in
      append_assoc page.0 (rows_of pages) (rows_still cells (left_by page.1 pages))
      ∙ ap (λ (es : Entries). page.0 ++ es) (walked_from is_page cut page.1 pages (room_left query (shown_rows query cells) page some ending) are.1)
      ∙ page_and_rest query page ending

  -- where no row is left, pages have all that the cells show
  pub all_walked : (is_page : QueryValue → PageValue → Type 0) → ((query : QueryValue) (page : PageValue) → is_page query page → IsCutFrom cells query page)
      → (query : QueryValue) (pages : List PageValue) → 0 < query.limit → ArePages is_page (Some query) pages → left_by (Some query) pages ≡ None → rows_of pages ≡ shown_rows query cells
  all_walked is_page cut query pages some are none =
      sym (append-nil (rows_of pages)) ∙ ap (λ (left : Option QueryValue). rows_of pages ++ rows_still cells left) (sym none) ∙ walked_from is_page cut (Some query) pages some are

-- a page of tablets that stay is cut from the rows of their cells
pub page_cut : (bounds : Bounds) (looks : List Look) (query : QueryValue) (page : PageValue) → page_of bounds query looks ≡ Ok page → IsCutFrom (flat_map (λ look. cells_in look.1) looks) query page
page_cut bounds looks query page is = (ok_value (first_refusal (visited bounds query looks)) (first_page query (rows_in query looks)) page is).1

still_left : (looks : List Look) (asked : Option QueryValue) → rows_left looks asked ≡ rows_still (flat_map (λ look. cells_in look.1) looks) asked
still_left looks None = refl
still_left looks (Some query) = refl

module _ (looks : List Look) (rises : Rising bytes_cmp (flat_map (λ look. cells_in look.1) looks)) where
  pub walked : (bounds : Bounds) (query : QueryValue) (pages : List PageValue) → 0 < query.limit → ArePages (IsPageOf bounds looks) (Some query) pages → rows_of pages ++ rows_left looks (left_by (Some query) pages) ≡ rows_in query looks
  walked bounds query pages some are =
      ap (λ (es : Entries). rows_of pages ++ es) (still_left looks (left_by (Some query) pages))
      ∙ walked_from (flat_map (λ (look : Look). cells_in look.1) looks) rises (IsPageOf bounds looks) (page_cut bounds looks) (Some query) pages some are

-- where none is refused, none that is visited is
none_kept : (p : Look → Bool) (looks : List Look) → first_refusal looks ≡ None → first_refusal (filter p looks) ≡ None
none_kept p [] none = refl
none_kept p (look ∷ looks) none =
    let parts = or_none (refusal look) (first_refusal looks) none in
    elim (p look) as (λ b. first_refusal (cond b (look ∷ filter p looks) (filter p looks)) ≡ None) [
      | true ↦ λ i. option_or (parts.0 i) (none_kept p looks parts.1 i)
      | false ↦ none_kept p looks parts.1
    ]

pub none_visited : (bounds : Bounds) (query : QueryValue) (looks : List Look) → first_refusal looks ≡ None → first_refusal (visited bounds query looks) ≡ None
none_visited bounds query looks none =
    none_kept (is_visited query (candidates_of bounds query looks)) (candidates_of bounds query looks) (none_kept (λ (look : Look). is_candidate bounds query look.0) looks none)

-- then a page is that of all cells together
pub page_of_cells : (bounds : Bounds) (query : QueryValue) (looks : List Look) → first_refusal looks ≡ None → page_of bounds query looks ≡ Ok (first_page query (rows_in query looks))
page_of_cells bounds query looks none = ap (λ (o : Option ScanFault). unless o (first_page query (rows_in query looks))) (none_visited bounds query looks none)

-- a walk comes to its end
module _ (bounds : Bounds) (looks : List Look) (rises : Rising bytes_cmp (flat_map (λ look. cells_in look.1) looks)) (none : first_refusal looks ≡ None) where
  abbrev Walk : QueryValue → Type 0
  Walk query = (pages : List PageValue) × ArePages (IsPageOf bounds looks) (Some query) pages × (left_by (Some query) pages ≡ None)

  last_page : (query : QueryValue) → (first_page query (rows_in query looks)).1 ≡ None → Walk query
  last_page query last = (first_page query (rows_in query looks) ∷ [], (page_of_cells bounds query looks none, tt), last)

  page_before : (query next : QueryValue) → (first_page query (rows_in query looks)).1 ≡ Some next → Walk next → Walk query
  page_before query next is walk = (
    first_page query (rows_in query looks) ∷ walk.0,
    (page_of_cells bounds query looks none, subst (λ (o : Option QueryValue). ArePages (IsPageOf bounds looks) o walk.0) (sym is) walk.1),
    ap (λ (o : Option QueryValue). left_by o walk.0) is ∙ walk.2,
  )

  by_count : (n : ℕ) (query : QueryValue) → 0 < query.limit → length (rows_in query looks) ≤ n → Walk query
  by_count zero query some few =
      elim (ending_of query (rows_in query looks) (first_page query (rows_in query looks)) some refl) [
        | whole last all short ↦ last_page query last
        | goes_on row at next front within ↦ absurd (omega arith)
      ]
  by_count (suc n) query some few =
      elim (ending_of query (rows_in query looks) (first_page query (rows_in query looks)) some refl) [
        | whole last all short ↦ last_page query last
        | goes_on row at next front within ↦
            let rest = shown_after query (flat_map (λ (look : Look). cells_in look.1) looks) query.limit row rises at in
            let size = ap (λ (es : Entries). length es) rest ∙ length-drop query.limit (rows_in query looks) in
            page_before query (query_after query row.0) next (by_count n (query_after query row.0) some (omega (arith, size)))
      ]

  pub walk_ends : (query : QueryValue) → 0 < query.limit → Walk query
  walk_ends query some = by_count (length (rows_in query looks)) query some (omega arith)

-- Keys rise from page to page, whatever changes between.

-- all keys are above the one that is excluded, if there is one
abbrev pub AllAfter : Option (List ℕ) → Entries → Type 0
AllAfter after rows = AllByRecursion (λ row. is_after after row.0 ≡ true) rows

shown_come_after : (query : QueryValue) (cells : Entries) → AllAfter query.after (shown_rows query cells)
shown_come_after query [] = tt
shown_come_after query (e ∷ es) =
    elim (is_shown query e) as (λ b. is_shown query e ≡ b → AllAfter query.after (cond b (e ∷ shown_rows query es) (shown_rows query es))) [
      | true ↦ λ shown. (third_true (is_from query.from e.0) (is_before query.to e.0) (is_after query.after e.0) (has_shown query.conditions e.1) shown, shown_come_after query es)
      | false ↦ λ hidden. shown_come_after query es
    ] refl

after_front : (after : Option (List ℕ)) (n : ℕ) (rows : Entries) → AllAfter after rows → AllAfter after (take n rows)
after_front after zero rows all = tt
after_front after (suc n) [] all = tt
after_front after (suc n) (row ∷ rows) all = (all.0, after_front after n rows all.1)

below_front : (key : List ℕ) (n : ℕ) (rows : Entries) → Below bytes_cmp key rows → Below bytes_cmp key (take n rows)
below_front key zero rows below = tt
below_front key (suc n) [] below = tt
below_front key (suc n) (row ∷ rows) below = (below.0, below_front key n rows below.1)

rising_front : (n : ℕ) (rows : Entries) → Rising bytes_cmp rows → Rising bytes_cmp (take n rows)
rising_front zero rows rises = tt
rising_front (suc n) [] rises = tt
rising_front (suc n) (row ∷ rows) rises = (below_front row.0 n rows rises.0, rising_front n rows rises.1)

below_after : (key : List ℕ) (rows : Entries) → AllAfter (Some key) rows → Below bytes_cmp key rows
below_after key [] after = tt
below_after key (row ∷ rows) after = (is_less (bytes_cmp key row.0) after.0, below_after key rows after.1)

below_later : (low key : List ℕ) (rows : Entries) → bytes_cmp low key ≡ Less → AllAfter (Some key) rows → Below bytes_cmp low rows
below_later low key [] less after = tt
below_later low key (row ∷ rows) less after = (nat_list_cmp_total.trans low key row.0 less (is_less (bytes_cmp key row.0) after.0), below_later low key rows less after.1)

join_from : (first : Row) (rows later : Entries) (row : Row) → Rising bytes_cmp (first ∷ rows) → last_or (Some first) rows ≡ Some row → AllAfter (Some row.0) later → Rising bytes_cmp later → Rising bytes_cmp (first ∷ rows ++ later)
join_from first [] later row rises is after rises_too =
    let same : row ≡ first = cc in
    (below_after first.0 later (subst (λ (r : Row). AllAfter (Some r.0) later) same after), rises_too)
join_from first (next ∷ rows) later row rises is after rises_too = (
  Below-append bytes_cmp first.0 (next ∷ rows) later rises.0 (below_later first.0 row.0 later (last_above first.0 next rows row rises.0 is) after),
  join_from next rows later row rises.1 is after rises_too,
)

-- rows after the last of others rise with them
rising_join : (front later : Entries) (row : Row) → Rising bytes_cmp front → last_or None front ≡ Some row → AllAfter (Some row.0) later → Rising bytes_cmp later → Rising bytes_cmp (front ++ later)
rising_join [] later row rises is after rises_too = rises_too
rising_join (first ∷ rows) later row rises is after rises_too = join_from first rows later row rises is after rises_too

last_after : (after : Option (List ℕ)) (first : Row) (rows : Entries) (row : Row) → AllAfter after (first ∷ rows) → last_or (Some first) rows ≡ Some row → is_after after row.0 ≡ true
last_after after first [] row all is = let same : first ≡ row = cc in ap (λ (r : Row). is_after after r.0) (sym same) ∙ all.0
last_after after first (next ∷ rows) row all is = last_after after next rows row all.1 is

later_after : (after : Option (List ℕ)) (key : List ℕ) (rows : Entries) → is_after after key ≡ true → AllAfter (Some key) rows → AllAfter after rows
later_after after key [] asked all = tt
later_after after key (row ∷ rows) asked all = (after_too after key row.0 asked all.0, later_after after key rows asked all.1)

both_after : (after : Option (List ℕ)) (front later : Entries) → AllAfter after front → AllAfter after later → AllAfter after (front ++ later)
both_after after [] later all all_too = all_too
both_after after (row ∷ rows) later all all_too = (all.0, both_after after rows later all.1 all_too)

after_join : (after : Option (List ℕ)) (front later : Entries) (row : Row) → AllAfter after front → last_or None front ≡ Some row → AllAfter (Some row.0) later → AllAfter after (front ++ later)
after_join after [] later row all is all_too = cc
after_join after (first ∷ rows) later row all is all_too = both_after after (first ∷ rows) later all (later_after after row.0 later (last_after after first rows row all is) all_too)

-- the cells that a page saw rise
pub seen_rising : (bounds : Bounds) (query : QueryValue) (seen : List Look) → IsLayout bounds → IsVisit bounds query seen → Rising bytes_cmp (flat_map (λ look. cells_in look.1) seen)
seen_rising bounds query seen lawful visit =
    all_rising bounds seen lawful (subst Ascending (sym visit.order) (ascending_first (is_candidate bounds query) (length seen) 0 (length bounds + 1)))
    (there_first bounds (is_candidate bounds query) (length seen) seen visit.order) visit.found

abbrev pub after_of : Option QueryValue → Option (List ℕ)
after_of None = None
after_of (Some query) = query.after

abbrev RiseAfter : Option QueryValue → Entries → Type 0
RiseAfter asked rows = Rising bytes_cmp rows × AllAfter (after_of asked) rows

none_more : (is_page : QueryValue → PageValue → Type 0) (asked : Option QueryValue) (pages : List PageValue) → asked ≡ None → ArePages is_page asked pages → rows_of pages ≡ []
none_more is_page asked [] none are = refl
none_more is_page None (page ∷ pages) none are = absurd are
none_more is_page (Some query) (page ∷ pages) none are = cc

page_rises : (query : QueryValue) (cells : Entries) → Rising bytes_cmp cells → (page : PageValue) (later : Entries) → (page.1 ≡ None → later ≡ []) → Ending query (shown_rows query cells) page → RiseAfter page.1 later → RiseAfter (Some query) (page.0 ++ later)
page_rises query cells rises page later none (whole last all few) last_is =
    subst (RiseAfter (Some query)) (sym ((λ i. all i ++ none last i) ∙ append-nil (shown_rows query cells))) (rising_kept (is_shown query) cells rises, shown_come_after query cells)
page_rises query cells rises page later none (goes_on row at next front within) last_is =
    let rows = take query.limit (shown_rows query cells) in
    let after : AllAfter (Some row.0) later = subst (λ (o : Option QueryValue). AllAfter (after_of o) later) next last_is.1 in
    subst (λ (es : Entries). RiseAfter (Some query) (es ++ later)) (sym front) (
      rising_join rows later row (rising_front query.limit (shown_rows query cells) (rising_kept (is_shown query) cells rises)) at after last_is.0,
      after_join query.after rows later row (after_front query.after query.limit (shown_rows query cells) (shown_come_after query cells)) at after,
    )

-- the page is the first of the rows that some rising cells show
abbrev pub IsCutFromSome : QueryValue → PageValue → Type 0
IsCutFromSome query page = (cells : Entries) × Rising bytes_cmp cells × IsCutFrom cells query page

pub cut_rise : (is_page : QueryValue → PageValue → Type 0) → ((query : QueryValue) (page : PageValue) → is_page query page → IsCutFromSome query page)
    → (asked : Option QueryValue) (pages : List PageValue) → HasRoom asked → ArePages is_page asked pages → Rising bytes_cmp (rows_of pages) × AllAfter (after_of asked) (rows_of pages)
cut_rise is_page cut asked [] some are = (tt, tt)
cut_rise is_page cut None (page ∷ pages) some are = absurd are
cut_rise is_page cut (Some query) (page ∷ pages) some are =
    let (cells, rises, is) = cut query page are.0 in
    let ending = ending_of query (shown_rows query cells) page some is in
    page_rises query cells rises page (rows_of pages) (λ none. none_more is_page page.1 pages none are.1) ending
    (cut_rise is_page cut page.1 pages (room_left query (shown_rows query cells) page some ending) are.1)

pub pages_rise : (bounds : Bounds) → IsLayout bounds → (asked : Option QueryValue) (pages : List PageValue) → HasRoom asked → ArePages (IsSomePage bounds) asked pages → Rising bytes_cmp (rows_of pages) × AllAfter (after_of asked) (rows_of pages)
pages_rise bounds lawful asked pages some are =
    cut_rise (IsSomePage bounds) (λ query page is. (flat_map (λ (look : Look). cells_in look.1) is.0, seen_rising bounds query is.0 lawful is.1, page_cut bounds is.0 query page is.2)) asked pages some are
