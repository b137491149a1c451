-- Pages that are resumed, look by look.
use Rattle.std.proofs.Common.{◌≡◌, ◌⊎◌, ℕ, zero, suc, ◌+◌, ◌-◌, ◌<◌, ◌≤◌, Bool, true, false, cond, List, [], ◌∷◌, ◌++◌, length, map, take, nat_lt, Option, Some, None, Result, Ok, Err, inl, inr, refl, sym, ap, ◌∙◌, subst, arith, append-nil, append_assoc, length-append}
use Rattle.std.specs.Prelude.{filter, IfSome, OnErr}
use Rattle.std.specs.List.{range_with_len}
use Rattle.std.specs.Option.{option_or}
use Rattle.std.proofs.Math.Seq.{take-append_seam}
use Rattle.std.proofs.lemmas.Bool.{cases_lt}
use Rattle.std.proofs.lemmas.List.{map-append, length-map}
use Rattle.std.proofs.lemmas.List.FromFn.{length-range_with_len}
use Rattle.pn_record.specs.Cells.{Entries}
use Rattle.pn_tablet.specs.Layouts.{Bounds, IsLayout}
use Rattle.pn_tablet.specs.Steps.{Refuses}
use Rattle.pn_scan.specs.Queries.{QueryValue}
use Rattle.pn_scan.specs.Shown.{shown_rows}
use Rattle.pn_scan.specs.Pages.{Look, cells_in, is_candidate, candidates, rows_in, is_visited, candidates_of, visited, PageValue, refusal, first_refusal, first_page, unless}
use Rattle.pn_scan.specs.Paging.{LookMade, AreMade, looks_in, Follows, Gaps, Moving, IsPreorder, LooksAfter, going_in, rows_to_come, steps_left, IsOnPage, EndsPage, PartValue, left_in, part_left}
use Rattle.pn_scan.specs.Views.{Looks, LooksOnce, is_memory, rows_at, GoesOn, IsVisit, IsWhole, IsScan}
use Rattle.pn_scan.specs.WalkValues.{PageWalkValue, PartWalkValue}
use Rattle.pn_scan.specs.declared.view.ScanFault.{ScanFault}
use Rattle.pn_scan.specs.declared.view.ScanFault.TheVariants.{Memory}
use Rattle.pn_scan.specs.declared.walk.TabletRows.{TabletRows}
use Rattle.pn_scan.specs.declared.walk.TabletRows.TheVariants.{Done as FoundAll, Rest}
use Rattle.pn_scan.proofs.Continuing.{Numbered, all_visited}
use Rattle.pn_scan.proofs.Scans.{found_more, rows_more, refused_last, or_none, goes_on_more, few_more, after_front, all_taken, more_left, is_right_too, ok_value, some_seen}
use Rattle.pn_scan.proofs.CandidateRange.{range_of, numbered_from}

-- where no look was refused, none of some of them was
none_refused_kept : (p : Look → Bool) (looks : List Look) → first_refusal looks ≡ None → first_refusal (filter p looks) ≡ None
none_refused_kept p [] none = refl
none_refused_kept p (look ∷ looks) none =
    let parts = or_none (refusal look) (first_refusal looks) none in
    elim (p look) as (λ b. first_refusal (cond b (look ∷ filter p looks) (filter p looks)) ≡ None) [
      | true ↦ λ i. option_or (parts.0 i) (none_refused_kept p looks parts.1 i)
      | false ↦ none_refused_kept p looks parts.1
    ]

none_refused_visited : (bounds : Bounds) (query : QueryValue) (seen : List Look) → first_refusal seen ≡ None → first_refusal (visited bounds query seen) ≡ None
none_refused_visited bounds query seen none =
    none_refused_kept (is_visited query (candidates_of bounds query seen)) (candidates_of bounds query seen) (none_refused_kept (λ (look : Look). is_candidate bounds query look.0) seen none)

-- a number that is kept of a range is below its end
kept_first : (a n t : ℕ) (rest xs ys : List ℕ) → ((more : List ℕ) → rest ≡ more ++ t ∷ ys → t < (a + 1) + n) → a ∷ rest ≡ xs ++ t ∷ ys → t < a + suc n
kept_first a n t rest [] ys later is = let same : a ≡ t = cc in omega arith
kept_first a n t rest (x ∷ xs) ys later is = let low : t < (a + 1) + n = later xs (cc) in omega arith

kept_below : (p : ℕ → Bool) (a n t : ℕ) (xs ys : List ℕ) → filter p (range_with_len a n) ≡ xs ++ t ∷ ys → t < a + n
kept_below p a zero t [] ys is = cc
kept_below p a zero t (x ∷ xs) ys is = cc
kept_below p a (suc n) t xs ys is =
    elim (p a) as (λ b. cond b (a ∷ filter p (range_with_len (a + 1) n)) (filter p (range_with_len (a + 1) n)) ≡ xs ++ t ∷ ys → t < a + suc n) [
      | true ↦ λ e. kept_first a n t (filter p (range_with_len (a + 1) n)) xs ys (λ more other. kept_below p (a + 1) n t more ys other) e
      | false ↦ λ e. let low : t < (a + 1) + n = kept_below p (a + 1) n t xs ys e in omega arith
    ] is

-- the first of a range, and the others
range_first : (next end : ℕ) → next < end → range_with_len next (end - next) ≡ next ∷ range_with_len (next + 1) (end - (next + 1))
range_first next end more = let size : end - next ≡ suc (end - (next + 1)) = omega arith in ap (range_with_len next) size

range_none : (next end : ℕ) → end ≤ next → range_with_len next (end - next) ≡ []
range_none next end past = let none : end - next ≡ 0 = omega arith in ap (range_with_len next) none

-- the first part of a list
front_of : (all xs ys : List ℕ) → all ≡ xs ++ ys → xs ≡ take (length xs) all
front_of all xs ys is = sym (take-append_seam xs ys) ∙ ap (λ (l : List ℕ). take (length xs) l) (sym is)

pub held : {P : Type 0} {A : Type 0} (o : Option A) → P → IfSome o (λ x. P)
held None p = tt
held (Some x) p = p

-- one look more
pub made_more : {V : Type 0} (looks : V → Look → V → Type 0) (trace : List (LookMade V)) (made : LookMade V) → AreMade looks trace → looks made.old made.look made.new → AreMade looks (trace ++ made ∷ [])
made_more looks [] made before last = (last, tt)
made_more looks (first ∷ trace) made before last = (before.0, made_more looks trace made before.1 last)

pub looks_more : {V : Type 0} (trace : List (LookMade V)) (made : LookMade V) → looks_in (trace ++ made ∷ []) ≡ looks_in trace ++ made.look ∷ []
looks_more trace made = map-append (λ one. one.look) trace (made ∷ [])

module _ {V : Type 0} {looks : V → Look → V → Type 0} {bounds : Bounds} {query : QueryValue} {walk : PageWalkValue} {trace : List (LookMade V)} (on : IsOnPage looks bounds query walk trace) where
  abbrev seen : List Look
  seen = looks_in trace

  abbrev numbers : List ℕ
  numbers = map (λ look. look.0) seen

  -- the look that is resumed comes to the same rows
  pub gone_on : (next : PageWalkValue) → next.rows ++ rows_to_come query next.part ≡ walk.rows ++ rows_to_come query walk.part → next.next ≡ walk.next → next.end ≡ walk.end
      → IfSome next.part (λ part. 0 < length trace) → IsOnPage looks bounds query next (trace ++ [])
  gone_on next rows number end begun = subst (IsOnPage looks bounds query next) (sym (append-nil trace)) (record {
    made = on.made;
    visit = on.visit;
    none_refused = on.none_refused;
    to_come = on.to_come ∙ (λ i. map (λ look. look.0) seen ++ range_with_len (sym number i) (sym end i - sym number i));
    rows_are = rows ∙ on.rows_are;
    begun = begun;
  })

  -- memory that runs out after a look ends the page
  pub page_without_memory : 0 < length trace → EndsPage looks bounds query (Err Memory) (trace ++ [])
  page_without_memory begun = subst (EndsPage looks bounds query (Err Memory)) (sym (append-nil trace)) (record {
    made = on.made;
    visit = on.visit;
    answers = subst (λ (o : Option ScanFault). Refuses is_memory Memory (unless o (first_page query (rows_in query seen)))) (sym (none_refused_visited bounds query seen on.none_refused)) refl;
    whole = tt;
    begun = begun;
  })

  -- where no look is resumed
  module _ (none : walk.part ≡ None) where
    rows_there : walk.rows ≡ take (query.limit + 1) (rows_in query seen)
    rows_there = sym (append-nil walk.rows) ∙ ap (λ (part : Option PartWalkValue). walk.rows ++ rows_to_come query part) (sym none) ∙ on.rows_are

    none_left : (walk.end ≤ walk.next) ⊎ (length bounds < walk.next) → range_with_len walk.next (walk.end - walk.next) ≡ []
    none_left (inl past) = range_none walk.next walk.end past
    none_left (inr above) = elim (cases_lt walk.next walk.end) [
      | inl more ↦
          let kept = kept_below (is_candidate bounds query) 0 (length bounds + 1) walk.next numbers (range_with_len (walk.next + 1) (walk.end - (walk.next + 1)))
          (on.to_come ∙ ap (λ (l : List ℕ). numbers ++ l) (range_first walk.next walk.end more)) in
          absurd (omega (arith, kept, above))
      | inr past ↦ range_none walk.next walk.end past
    ]

    all_seen : (walk.end ≤ walk.next) ⊎ (length bounds < walk.next) → length seen ≡ length (candidates bounds query)
    all_seen past =
        sym (length-map seen (λ look. look.0)) ∙ ap (λ (l : List ℕ). length l) (sym (append-nil numbers) ∙ ap (λ (l : List ℕ). numbers ++ l) (sym (none_left past)) ∙ sym on.to_come)

    is_whole : (walk.end ≤ walk.next) ⊎ (length bounds < walk.next) ⊎ (query.limit < length walk.rows) → IsWhole bounds query seen
    is_whole (inl past) = inl (all_seen (inl past))
    is_whole (inr (inl above)) = inl (all_seen (inr above))
    is_whole (inr (inr full)) = inr (more_left query.limit (rows_in query seen) (subst (λ (es : Entries). query.limit < length es) rows_there full))

    -- a page that is whole ends
    pub page_ends : (walk.end ≤ walk.next) ⊎ (length bounds < walk.next) ⊎ (query.limit < length walk.rows) → (page : PageValue) → ((all : Entries) → walk.rows ≡ take (query.limit + 1) all → page ≡ first_page query all)
        → EndsPage looks bounds query (Ok page) (trace ++ [])
    page_ends whole page is = subst (EndsPage looks bounds query (Ok page)) (sym (append-nil trace)) (record {
      made = on.made;
      visit = on.visit;
      answers = ap (λ (o : Option ScanFault). unless o (first_page query (rows_in query seen))) (none_refused_visited bounds query seen on.none_refused) ∙ ap (λ (p : PageValue). Ok p) (sym (is (rows_in query seen) rows_there));
      whole = is_whole whole;
      begun = tt;
    })

    -- also where memory runs out for its continuation
    pub full_without_memory : query.limit < length walk.rows → EndsPage looks bounds query (Err Memory) (trace ++ [])
    full_without_memory full =
        page_without_memory (omega (arith, some_seen query query.limit seen (subst (λ (es : Entries). query.limit < length es) rows_there full), length-map trace (λ one. one.look)))

    -- one look more
    module _ (inside : walk.next < walk.end) (few : length walk.rows ≤ query.limit) {look : Look} (here : look.0 ≡ walk.next) {old new : V} {A : Type 0} {show : A → PartValue} {answer : Result A ScanFault}
        (once : LooksOnce looks bounds old new show answer (rows_at query (query.limit + 1 - length walk.rows)) look) where
      abbrev made : LookMade V
      made = record { old = old; look = look; new = new }

      abbrev all : List Look
      all = seen ++ look ∷ []

      abbrev longer : List (LookMade V)
      longer = trace ++ made ∷ []

      are_all : looks_in longer ≡ all
      are_all = looks_more trace made

      rows_same : rows_in query seen ≡ walk.rows
      rows_same = sym (rows_there ∙ all_taken query.limit (rows_in query seen) (subst (λ (es : Entries). length es ≤ query.limit) rows_there few))

      on_before : GoesOn query seen
      on_before = record { none_refused = on.none_refused; few = omega (arith, ap (λ (es : Entries). length es) rows_same, few) }

      numbers_more : map (λ look. look.0) all ≡ numbers ++ walk.next ∷ []
      numbers_more = map-append (λ look. look.0) seen (look ∷ []) ∙ ap (λ (n : ℕ). numbers ++ n ∷ []) here

      to_come : candidates bounds query ≡ map (λ look. look.0) all ++ range_with_len (walk.next + 1) (walk.end - (walk.next + 1))
      to_come =
          on.to_come
          ∙ ap (λ (l : List ℕ). numbers ++ l) (range_first walk.next walk.end inside)
          ∙ sym (append_assoc numbers (walk.next ∷ []) (range_with_len (walk.next + 1) (walk.end - (walk.next + 1))))
          ∙ ap (λ (l : List ℕ). l ++ range_with_len (walk.next + 1) (walk.end - (walk.next + 1))) (sym numbers_more)

      some : 0 < length longer
      some = omega (arith, length-append trace (made ∷ []))

      visit : IsVisit bounds query all
      visit = record {
        found = found_more bounds seen look on.visit.found once.found;
        order = front_of (candidates bounds query) (map (λ look. look.0) all) _ to_come ∙ ap (λ (n : ℕ). take n (candidates bounds query)) (length-map all (λ look. look.0));
        only = λ n within. goes_on_more query seen look n on_before within;
      }

      -- which was refused, or found no memory
      pub look_fails : IsLayout bounds → (why : ScanFault) → Refuses is_memory why (rows_at query (query.limit + 1 - length walk.rows) look) → EndsPage looks bounds query (Err why) (trace ++ made ∷ [])
      look_fails lawful why refuses =
          let range = range_of bounds query lawful in
          let numbered : Numbered range.0 all = numbered_from (length all) range.0 range.1 all (visit.order ∙ ap (λ (l : List ℕ). take (length all) l) range.2) in
          let counted = sym (length-range_with_len range.0 range.1) ∙ ap (λ (l : List ℕ). length l) (sym range.2 ∙ to_come) ∙ length-append (map (λ look. look.0) all) _ in
          let short : length all ≤ range.1 = omega (arith, counted, length-map all (λ look. look.0)) in
          let refused : first_refusal (visited bounds query all) ≡ refusal look =
          ap first_refusal (all_visited bounds query range.0 range.1 all range.2 short numbered (few_more query seen look on_before)) ∙ refused_last seen look on.none_refused in
          record {
            made = made_more looks trace made on.made once.looked;
            visit = subst (IsVisit bounds query) (sym are_all) visit;
            answers = subst (λ (l : List Look). Refuses is_memory why (unless (first_refusal (visited bounds query l)) (first_page query (rows_in query l)))) (sym are_all)
                (subst (λ (o : Option ScanFault). Refuses is_memory why (unless o (first_page query (rows_in query all)))) (sym refused)
                (is_right_too (is_memory why) why (refusal look) _ (first_page query (rows_in query all)) refuses));
            whole = tt;
            begun = some;
          }

      -- which found some rows
      module _ (part : PartValue) (right : rows_at query (query.limit + 1 - length walk.rows) look ≡ Ok part) where
        parts : (refusal look ≡ None) × (part ≡ (take (query.limit + 1 - length walk.rows) (shown_rows query (cells_in look.1)), nat_lt (query.limit + 1 - length walk.rows) (length (shown_rows query (cells_in look.1)))))
        parts = ok_value (refusal look) _ part right

        none_refused : first_refusal all ≡ None
        none_refused = refused_last seen look on.none_refused ∙ parts.0

        front : walk.rows ++ part.0 ≡ take (query.limit + 1) (rows_in query all)
        front =
            ap (λ (p : PartValue). walk.rows ++ p.0) parts.1
            ∙ after_front query.limit walk.rows (shown_rows query (cells_in look.1)) (rows_in query all) few (rows_more query seen look ∙ ap (λ (es : Entries). es ++ shown_rows query (cells_in look.1)) rows_same)

        pub looked_on : (next : PageWalkValue) → next.rows ++ rows_to_come query next.part ≡ walk.rows ++ part.0 → next.next ≡ walk.next + 1 → next.end ≡ walk.end → IsOnPage looks bounds query next (trace ++ made ∷ [])
        looked_on next rows number end = record {
          made = made_more looks trace made on.made once.looked;
          visit = subst (IsVisit bounds query) (sym are_all) visit;
          none_refused = ap first_refusal are_all ∙ none_refused;
          to_come = to_come ∙ (λ i. map (λ look. look.0) (sym are_all i) ++ range_with_len (sym number i) (sym end i - sym number i));
          rows_are = rows ∙ front ∙ ap (λ (l : List Look). take (query.limit + 1) (rows_in query l)) (sym are_all);
          begun = held next.part some;
        }

        pub looked_without_memory : EndsPage looks bounds query (Err Memory) (trace ++ made ∷ [])
        looked_without_memory = record {
          made = made_more looks trace made on.made once.looked;
          visit = subst (IsVisit bounds query) (sym are_all) visit;
          answers = subst (λ (o : Option ScanFault). Refuses is_memory Memory (unless o (first_page query (rows_in query (looks_in longer)))))
              (sym (none_refused_visited bounds query (looks_in longer) (ap first_refusal are_all ∙ none_refused))) refl;
          whole = tt;
          begun = some;
        }

-- between looks that were made the view moved
pub looks_after : {V : Type 0} (moves : Moving V) (looks : V → Look → V → Type 0) (was now : V) (trace : List (LookMade V)) → AreMade looks trace → Gaps moves was trace now
    → (reached : V) × Looks (LooksAfter moves looks) was (looks_in trace) reached × moves reached now
looks_after moves looks was now [] are_made gaps = (was, refl, gaps)
looks_after moves looks was now (one ∷ trace) are_made gaps =
    let more = looks_after moves looks one.new now trace are_made.1 gaps.1 in
    (more.0, (one.new, record { between = one.old; moved = gaps.0; looked = are_made.0 }, more.1), more.2)

-- more looks, with nothing between them, after the view moved
gaps_on : {V : Type 0} (moves : Moving V) (old new : V) (more : List (LookMade V)) (was : V) → IsPreorder moves → moves was old → Follows old more new → Gaps moves was more new
gaps_on moves old new [] was order moved follows = subst (moves was) (sym follows) moved
gaps_on moves old new (one ∷ more) was order moved follows = (subst (moves was) (sym follows.0) moved, gaps_on moves one.new new more one.new order (order.stays one.new) follows.1)

pub gaps_more : {V : Type 0} (moves : Moving V) (was between old new : V) (trace more : List (LookMade V)) → IsPreorder moves → Gaps moves was trace between → moves between old → Follows old more new → Gaps moves was (trace ++ more) new
gaps_more moves was between old new [] more order gaps moved follows = gaps_on moves old new more was order (order.goes_on was between old gaps moved) follows
gaps_more moves was between old new (one ∷ trace) more order gaps moved follows = (gaps.0, gaps_more moves one.new between old new trace more order gaps.1 moved follows)

pub begun_too : {A V : Type 0} (answer : Result A ScanFault) (trace : List (LookMade V)) → OnErr answer (0 < length trace) → OnErr answer (0 < length (looks_in trace))
begun_too (Ok value) trace begun = tt
begun_too (Err why) trace begun = omega (arith, begun, length-map trace (λ one. one.look))

-- a page that was found by looks between which the view moved
pub scanned : {V : Type 0} (moves : Moving V) (looks : V → Look → V → Type 0) (bounds : Bounds) (query : QueryValue) (was now : V) (answer : Result PageValue ScanFault) (trace : List (LookMade V)) → EndsPage looks bounds query answer trace → Gaps moves was trace now
    → (reached : V) × IsScan (LooksAfter moves looks) bounds query was reached (λ page. page) answer (first_page query) (looks_in trace) × moves reached now
scanned moves looks bounds query was now answer trace ends gaps =
    let there = looks_after moves looks was now trace ends.made gaps in (
      there.0,
      record {
        looked = there.1;
        visit = ends.visit;
        answers = ends.answers;
        whole = ends.whole;
        begun = begun_too answer trace ends.begun;
      },
      there.2,
    )

-- a look that is resumed comes nearer to its end
pub less_left : (part : TabletRows) (next old : Option PartWalkValue) (walk : PartWalkValue) → next ≡ going_in part → old ≡ Some walk → left_in part < part_left walk → steps_left next < steps_left old
less_left (FoundAll rows more spent) next old walk is was less = let none = ap steps_left is in let some = ap steps_left was in omega (arith, less)
less_left (Rest rest) next old walk is was less = let left = ap steps_left is in let some = ap steps_left was in omega (arith, less)
