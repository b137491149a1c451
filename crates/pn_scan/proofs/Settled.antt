-- Pages of tablets that stay as they are.
use Rattle.std.proofs.Common.{◌≡◌, ℕ, zero, suc, ◌+◌, ◌<◌, ◌≤◌, inl, inr, Bool, true, false, cond, List, [], ◌∷◌, ◌++◌, length, map, take, drop, nat_lt, slice_get, Option, Some, None, option_map, Result, Ok, Err, IsOk, refl, sym, ap, ◌∙◌, subst, arith, append-nil, length-append}
use Rattle.std.specs.Prelude.{filter, IsErrOf, IsSomeAnd}
use Rattle.std.specs.List.{AllByRecursion, range_with_len, last_or}
use Rattle.std.specs.Option.{option_or}
use Rattle.std.proofs.lemmas.Bool.Decides.{nat_tests}
use Rattle.std.proofs.lemmas.List.{take-append-le, take-append-drop}
use Rattle.std.proofs.lemmas.List.Elements.{filter-append}
use Rattle.std.proofs.lemmas.List.FromFn.{length-range_with_len, length-map-range_with_len}
use Rattle.pn_record.specs.Cells.{Entries}
use Rattle.pn_json.specs.Answers.{ShowsUnless}
use Rattle.pn_tablet.specs.Layouts.{Bounds, IsLayout}
use Rattle.pn_tablet.specs.Tablets.{TabletStateValue}
use Rattle.pn_scan.specs.Queries.{QueryValue, query_after}
use Rattle.pn_scan.specs.Pages.{Look, is_candidate, candidates, rows_in, is_visited, candidates_of, visited, PageValue, refusal, first_refusal, first_page, page_of, unless}
use Rattle.pn_scan.specs.Views.{IsFoundIn, Looks, LooksAt, IsVisit, IsWhole, IsScan, looks_of}
use Rattle.pn_scan.specs.declared.view.ScanFault.{ScanFault}
use Rattle.pn_scan.specs.declared.view.ScanFault.TheVariants as fault
use Rattle.pn_scan.proofs.InOrder.{rows_of_candidates, AreThere}
use Rattle.pn_scan.proofs.CandidateRange.{AreRange, range_of, visited_in, not_visited}
use Rattle.pn_scan.proofs.Continuing.{Numbered, AllFew, numbered_split, keeps_all, all_visited}
use Rattle.pn_scan.proofs.Scans.{rows-append, ok_value, or_none}

lt_true : (m n : ℕ) → m < n → nat_lt m n ≡ true
lt_true m n less = grind (arith, nat_tests)

-- a full page is cut from the first rows
full_front : (query : QueryValue) (rows more : Entries) → query.limit < length rows → first_page query (rows ++ more) ≡ first_page query rows
full_front query rows more full =
    let front : take query.limit (rows ++ more) ≡ take query.limit rows = take-append-le query.limit rows more (omega arith) in
    let size = length-append rows more in
    let is : nat_lt query.limit (length (rows ++ more)) ≡ nat_lt query.limit (length rows) = lt_true query.limit (length (rows ++ more)) (omega arith) ∙ sym (lt_true query.limit (length rows) full) in
    λ i. (front i, cond (is i) (option_map (λ row. query_after query row.0) (last_or None (front i))) None)

by_first : (o p q : Option ScanFault) (why : ScanFault) → option_or o p ≡ Some why → (p ≡ Some why → q ≡ Some why) → option_or o q ≡ Some why
by_first None p q why is follows = follows is
by_first (Some first) p q why is follows = is

refused_front : (seen more : List Look) (why : ScanFault) → first_refusal seen ≡ Some why → first_refusal (seen ++ more) ≡ Some why
refused_front [] more why is = cc
refused_front (look ∷ seen) more why is = by_first (refusal look) (first_refusal seen) (first_refusal (seen ++ more)) why is (refused_front seen more why)

none_left : {A : Type 0} (xs : List A) → length xs ≡ 0 → xs ≡ []
none_left [] none = refl
none_left (x ∷ xs) none = absurd (omega arith)

refused_some : (o : Option ScanFault) {A : Type 0} (a : A) (why : ScanFault) → unless o a ≡ Err why → o ≡ Some why
refused_some None a why is = cc
refused_some (Some other) a why is = cc

-- the first of some looks, none of which was refused
one_seen : (seen : List Look) → 0 < length seen → first_refusal seen ≡ None → (look : Look) × (rest : List Look) × (seen ≡ look ∷ rest) × (refusal look ≡ None)
one_seen [] some none = absurd (omega (arith, some))
one_seen (look ∷ rest) some none = (look, rest, refl, (or_none (refusal look) (first_refusal rest) none).0)

pub none_from_ok : {A : Type 0} (o : Option ScanFault) (a : A) → IsOk (unless o a) → o ≡ None
none_from_ok None a is = refl
none_from_ok (Some why) a is = absurd (cc)

module _ (tablets : List TabletStateValue) where
  abbrev as_stands : ℕ → Look
  as_stands tablet = (tablet, slice_get tablets tablet)

  -- looks that found the tablets as they are
  abbrev pub Stand : List Look → Type 0
  Stand seen = AllByRecursion (λ look. slice_get tablets look.0 ≡ look.1) seen

  seen_as_stands : (seen : List Look) → Stand seen → seen ≡ map as_stands (map (λ look. look.0) seen)
  seen_as_stands [] stand = refl
  seen_as_stands (look ∷ seen) stand = λ i. (look.0, sym stand.0 i) ∷ seen_as_stands seen stand.1 i

  map_front : (k : ℕ) (ns : List ℕ) → map as_stands (take k ns) ≡ take k (map as_stands ns)
  map_front zero ns = refl
  map_front (suc k) [] = refl
  map_front (suc k) (n ∷ ns) = ap (λ (l : List Look). as_stands n ∷ l) (map_front k ns)

  kept_map : (p : ℕ → Bool) (ns : List ℕ) → filter (λ look. p look.0) (map as_stands ns) ≡ map as_stands (filter p ns)
  kept_map p [] = refl
  kept_map p (n ∷ ns) =
      elim (p n) as (λ b. cond b (as_stands n ∷ filter (λ look. p look.0) (map as_stands ns)) (filter (λ look. p look.0) (map as_stands ns)) ≡ map as_stands (cond b (n ∷ filter p ns) (filter p ns))) [
        | true ↦ ap (λ (l : List Look). as_stands n ∷ l) (kept_map p ns)
        | false ↦ kept_map p ns
      ]

  numbered_map : (n len : ℕ) → Numbered n (map as_stands (range_with_len n len))
  numbered_map n zero = tt
  numbered_map n (suc len) = (refl, numbered_map (n + 1) len)

  there_map : (bounds : Bounds) (n len : ℕ) → n + len ≤ length bounds + 1 → AreThere bounds (map as_stands (range_with_len n len))
  there_map bounds n zero within = tt
  there_map bounds n (suc len) within = (omega arith, there_map bounds (n + 1) len (omega arith))

  module _ (bounds : Bounds) (query : QueryValue) (lawful : IsLayout bounds) (seen : List Look) (visit : IsVisit bounds query seen) (stand : Stand seen) where
    abbrev all : List Look
    all = looks_of bounds tablets

    abbrev mine : List Look
    mine = candidates_of bounds query all

    abbrev more : List Look
    more = drop (length seen) mine

    range : AreRange bounds query
    range = range_of bounds query lawful

    are_candidates : mine ≡ map as_stands (candidates bounds query)
    are_candidates = kept_map (is_candidate bounds query) (range_with_len 0 (length bounds + 1))

    are_range : mine ≡ map as_stands (range_with_len range.0 range.1)
    are_range = are_candidates ∙ ap (map as_stands) range.2

    front : seen ≡ take (length seen) mine
    front = seen_as_stands seen stand ∙ ap (map as_stands) visit.order ∙ map_front (length seen) (candidates bounds query) ∙ ap (λ (l : List Look). take (length seen) l) (sym are_candidates)

    parted : seen ++ more ≡ mine
    parted = (λ i. front i ++ more) ∙ take-append-drop (length seen) mine

    numbered : Numbered range.0 (seen ++ more)
    numbered = subst (Numbered range.0) (sym (parted ∙ are_range)) (numbered_map range.0 range.1)

    few : AllFew query seen
    few k inside = (visit.only k inside).few

    size : length seen + length more ≡ range.1
    size = sym (length-append seen more) ∙ ap (λ (l : List Look). length l) (parted ∙ are_range) ∙ length-map-range_with_len as_stands range.0 range.1

    own : visited bounds query seen ≡ seen
    own = all_visited bounds query range.0 range.1 seen range.2 (omega (arith, size)) (numbered_split range.0 seen more numbered).0 few

    visited_all : visited bounds query all ≡ seen ++ filter (is_visited query (seen ++ more)) more
    visited_all =
        ap (λ (l : List Look). filter (is_visited query l) l) (sym parted)
        ∙ filter-append (is_visited query (seen ++ more)) seen more
        ∙ ap (λ (l : List Look). l ++ filter (is_visited query (seen ++ more)) more) (keeps_all (is_visited query (seen ++ more)) seen (visited_in query range.0 [] seen more numbered few))

    -- what refused the page refuses it over all tablets
    settled_fault : {A : Type 0} (value : A) (why : ScanFault) → unless (first_refusal (visited bounds query seen)) value ≡ Err why → page_of bounds query all ≡ Err why
    settled_fault value why is =
        let first : first_refusal seen ≡ Some why = ap first_refusal (sym own) ∙ refused_some (first_refusal (visited bounds query seen)) value why is in
        ap (λ (o : Option ScanFault). unless o (first_page query (rows_in query all)))
        (ap first_refusal visited_all ∙ refused_front seen (filter (is_visited query (seen ++ more)) more) why first)

    rows_all : AllByRecursion (IsFoundIn bounds) all → rows_in query all ≡ rows_in query seen ++ rows_in query more
    rows_all found =
        rows_of_candidates bounds query all lawful (there_map bounds 0 (length bounds + 1) (omega arith)) found ∙ ap (rows_in query) (sym parted) ∙ rows-append query seen more

    no_more : length seen ≡ length (candidates bounds query) → more ≡ []
    no_more whole = none_left more (omega (arith, size, whole, ap (λ (l : List ℕ). length l) range.2, length-range_with_len range.0 range.1))

    nothing_else : IsWhole bounds query seen → filter (is_visited query (seen ++ more)) more ≡ []
    nothing_else (inl whole) = ap (filter (is_visited query (seen ++ more))) (no_more whole)
    nothing_else (inr full) = not_visited query range.0 seen [] more numbered full

    same_page : IsWhole bounds query seen → first_page query (rows_in query seen ++ rows_in query more) ≡ first_page query (rows_in query seen)
    same_page (inl whole) = ap (first_page query) (ap (λ (l : List Look). rows_in query seen ++ rows_in query l) (no_more whole) ∙ append-nil (rows_in query seen))
    same_page (inr full) = full_front query (rows_in query seen) (rows_in query more) full

    settled_page : (page : PageValue) → AllByRecursion (IsFoundIn bounds) all → IsWhole bounds query seen → unless (first_refusal (visited bounds query seen)) (first_page query (rows_in query seen)) ≡ Ok page → page_of bounds query all ≡ Ok page
    settled_page page found whole is =
        let parts = ok_value (first_refusal (visited bounds query seen)) (first_page query (rows_in query seen)) page is in
        let none : first_refusal seen ≡ None = ap first_refusal (sym own) ∙ parts.0 in
        let none_all : first_refusal (visited bounds query all) ≡ None = ap first_refusal (visited_all ∙ ap (λ (l : List Look). seen ++ l) (nothing_else whole) ∙ append-nil seen) ∙ none in
        ap (λ (o : Option ScanFault). unless o (first_page query (rows_in query all))) none_all
        ∙ ap (λ (p : PageValue). Ok p) (ap (first_page query) (rows_all found) ∙ same_page whole ∙ sym parts.1)

    -- where memory ran out, the first candidate serves
    first_served : 0 < length seen → first_refusal (visited bounds query seen) ≡ None → IsSomeAnd (slice_get mine 0) (λ look. refusal look ≡ None)
    first_served some none =
        let first = one_seen seen some (ap first_refusal (sym own) ∙ none) in
        subst (λ (looks : List Look). IsSomeAnd (slice_get looks 0) (λ look. refusal look ≡ None)) (sym (sym parted ∙ ap (λ (l : List Look). l ++ more) first.2)) first.3

  -- a page that was read of tablets that stay is that of all tablets, unless memory ran out
  pub page_settled : {V A : Type 0} (looks : V → Look → V → Type 0) (bounds : Bounds) (query : QueryValue) (old new : V) (show : A → PageValue) (answer : Result A ScanFault) (seen : List Look) → IsLayout bounds
      → AllByRecursion (IsFoundIn bounds) (looks_of bounds tablets) → Stand seen → IsScan looks bounds query old new show answer (first_page query) seen → ShowsUnless fault.Memory show answer (page_of bounds query (looks_of bounds tablets))
  page_settled looks bounds query old new show (Ok value) seen lawful found stand scan = settled_page bounds query lawful seen scan.visit stand (show value) found scan.whole scan.answers
  page_settled looks bounds query old new show (Err fault.Memory) seen lawful found stand scan = λ other. absurd (other refl)
  page_settled looks bounds query old new show (Err (fault.Recovering tablet)) seen lawful found stand scan = λ other. settled_fault bounds query lawful seen scan.visit stand (first_page query (rows_in query seen)) (fault.Recovering tablet) scan.answers
  page_settled looks bounds query old new show (Err (fault.Behind has)) seen lawful found stand scan = λ other. settled_fault bounds query lawful seen scan.visit stand (first_page query (rows_in query seen)) (fault.Behind has) scan.answers
  page_settled looks bounds query old new show (Err fault.NoEntry) seen lawful found stand scan = λ other. settled_fault bounds query lawful seen scan.visit stand (first_page query (rows_in query seen)) fault.NoEntry scan.answers

  -- and memory ran out only after the first candidate was read
  pub page_begun : {V A : Type 0} (looks : V → Look → V → Type 0) (bounds : Bounds) (query : QueryValue) (old new : V) (show : A → PageValue) (answer : Result A ScanFault) (seen : List Look) → IsLayout bounds → Stand seen
      → IsScan looks bounds query old new show answer (first_page query) seen → IsErrOf answer fault.Memory → IsSomeAnd (slice_get (candidates_of bounds query (looks_of bounds tablets)) 0) (λ look. refusal look ≡ None)
  page_begun {A = A} looks bounds query old new show answer seen lawful stand scan is =
      let failed = subst (λ (a : Result A ScanFault). IsScan looks bounds query old new show a (first_page query) seen) is scan in
      first_served bounds query lawful seen failed.visit stand failed.begun (none_from_ok (first_refusal (visited bounds query seen)) _ failed.answers)

-- the looks of a view of tablets that stay find them as they are
pub plain_looks : {V : Type 0} (tablets : V → List TabletStateValue) (old new : V) (seen : List Look) → Looks (LooksAt tablets) old seen new → Stand (tablets old) seen × (new ≡ old)
plain_looks tablets old new [] looked = (tt, looked)
plain_looks tablets old new (look ∷ seen) looked =
    let same = looked.1.1 in
    let rest = plain_looks tablets looked.0 new seen looked.2 in
    ((looked.1.0, subst (λ v. Stand (tablets v) seen) same rest.0), rest.1 ∙ same)
